-- The rules of checking as relations, in the words of documents 01 and 02: which shape a form gives, and where and with which number
-- it is refused. A clause is a sentence of the paper; none goes by way of the functions that check. Assumes nothing.
use Rattle.std.specs.Prelude.{ℕ, ◌≡◌, Bool, true, false, not, ◌&&◌, ◌||◌, List, [], ◌∷◌, get_or}
use Rattle.std.proofs.Math.Option.{none, some}
use Rattle.definitions.specs.Bytes.{Bytes}
use Rattle.definitions.specs.Value.{Value}
use Rattle.definitions.specs.Shape.{Kind, among, int_only, int_and_dec, Shape, no_list, list_of, no_rec, rec_of, Fields, no_fields}
use Rattle.definitions.specs.Shape.{nothing, has, within, element_of, record_of, find, only_bool, only_numeric, only_text, only_list, only_rec}
use Rattle.definitions.specs.Join.{with_null, join, insert, shape_of}
use Rattle.definitions.specs.Reader.{Place, Conversion, Test, Result, Pairs, no_pairs, pair}

-- ---- what the forms want and bind

-- the name is listed with this shape
pub data Listed (n : Bytes) (s : Shape) : Shape → Type 0 where
  is_listed : {fs : Fields} {t : Shape} → record_of s ≡ rec_of fs → find n fs ≡ some t → Listed n s t

pub data Unlisted (n : Bytes) (s : Shape) : Type 0 where
  no_members : record_of s ≡ no_rec → Unlisted n s
  no_such_name : {fs : Fields} → record_of s ≡ rec_of fs → find n fs ≡ none → Unlisted n s

-- request Q-2: "the member's shape gains null where the place has null"
pub data GainsNull (s t : Shape) : Shape → Type 0 where
  gained : has Kind.null s ≡ true → GainsNull s t (with_null t)
  none_gained : has Kind.null s ≡ false → GainsNull s t t

-- what each conversion wants and gives
pub data Converts : Conversion → List Kind → Shape → Type 0 where
  -- "`int`, `bool`, `text` want kinds within their own and give it"
  by_int : Converts Conversion.to_int (Kind.int ∷ []) (only_numeric int_only)
  by_bool : Converts Conversion.to_bool (Kind.bool ∷ []) only_bool
  by_text : Converts Conversion.to_text (Kind.text ∷ []) only_text
  -- "`dec` wants kinds within int and dec and gives both"
  by_dec : Converts Conversion.to_dec (Kind.int ∷ Kind.dec ∷ []) (only_numeric int_and_dec)

-- what `each` binds: "(the element is nothing where list is absent)"
pub data ElementShape (s : Shape) : Shape → Type 0 where
  element : {e : Shape} → element_of s ≡ list_of e → ElementShape s e
  absent : element_of s ≡ no_list → ElementShape s nothing

-- the kinds of K: "(num: int and dec; int: int alone)"
pub data Means : Test → List Kind → Type 0 where
  null : Means Test.null (Kind.null ∷ [])
  bool : Means Test.bool (Kind.bool ∷ [])
  int : Means Test.int (Kind.int ∷ [])
  num : Means Test.num (Kind.int ∷ Kind.dec ∷ [])
  text : Means Test.text (Kind.text ∷ [])
  list : Means Test.list (Kind.list ∷ [])
  rec : Means Test.rec (Kind.rec ∷ [])

-- what list and rec of the second shape hold is what they hold in the first
pub record HoldsAs (s t : Shape) : Type 0 where
  pub element : has Kind.list t ≡ true → element_of t ≡ element_of s
  pub members : has Kind.rec t ≡ true → record_of t ≡ record_of s

-- "P's shape cut to K": the kinds of both
pub record Cut (ks : List Kind) (s t : Shape) : Type 0 where
  pub kinds : (j : Kind) → has j t ≡ has j s && among j ks
  pub holds : HoldsAs s t

-- "taking out int leaves int and dec where dec is there", and isn't taken out too
abbrev pub int_stays : List Kind → Shape → Kind → Bool
int_stays ks s j = among j (Kind.int ∷ []) && has Kind.dec s && not (among Kind.dec ks)

-- "K's kinds taken out, except that taking out int leaves int and dec where dec is there"
pub record TakenOut (ks : List Kind) (s t : Shape) : Type 0 where
  pub kinds : (j : Kind) → has j t ≡ has j s && (not (among j ks) || int_stays ks s j)
  pub holds : HoldsAs s t

-- ---- what is given, with the shapes of the bindings, innermost first

pub data PlaceChecks (env : List Shape) : Place → Shape → Type 0 where
  -- "`(it N)`, the N-th binding outward, 0 innermost"
  checks_it : {at n : ℕ} → PlaceChecks env (Place.it at n) (get_or env n nothing)
  -- "`field` wants .. the name listed, and gives that member's shape.", and of request Q-2: "Let `field` accept kinds within rec and null."
  checks_field
      : {at : ℕ} {n : Bytes} {p : Place} {s t u : Shape} → PlaceChecks env p s → within (Kind.rec ∷ Kind.null ∷ []) s ≡ true → Listed n s t
      → GainsNull s t u → PlaceChecks env (Place.field at n p) u

mutual
  pub data Checks : List Shape → Result → Shape → Type 0 where
    checks_convert
        : {env : List Shape} {at : ℕ} {c : Conversion} {p : Place} {ks : List Kind} {s t : Shape} → PlaceChecks env p s
        → Converts c ks t → within ks s ≡ true → Checks env (Result.convert at c p) t
    -- "`keep` gives the place's shape."
    checks_keep : {env : List Shape} {at : ℕ} {p : Place} {s : Shape} → PlaceChecks env p s → Checks env (Result.keep at p) s
    -- "`count` and `each` want kinds within list and null and give int, or a list of R's shape"
    checks_count
        : {env : List Shape} {at : ℕ} {p : Place} {s : Shape} → PlaceChecks env p s → within (Kind.list ∷ Kind.null ∷ []) s ≡ true
        → Checks env (Result.count at p) (only_numeric int_only)
    checks_each
        : {env : List Shape} {at : ℕ} {p : Place} {r : Result} {s e t : Shape} → PlaceChecks env p s → ElementShape s e
        → Checks (e ∷ env) r t → within (Kind.list ∷ Kind.null ∷ []) s ≡ true → Checks env (Result.each at p r) (only_list (list_of t))
    -- "`when` checks the first R with P's shape cut to K, the second with K's kinds taken out ..; it gives the join of both."
    checks_when
        : {env : List Shape} {at : ℕ} {k : Test} {p : Place} {r₁ r₂ : Result} {ks : List Kind} {s s₁ s₂ t₁ t₂ : Shape}
        → PlaceChecks env p s → Means k ks → Cut ks s s₁ → Checks (s₁ ∷ env) r₁ t₁ → TakenOut ks s s₂ → Checks (s₂ ∷ env) r₂ t₂
        → Checks env (Result.when at k p r₁ r₂) (join t₁ t₂)
    -- "`if` wants its first R within bool and gives the join."
    checks_if
        : {env : List Shape} {at : ℕ} {r₁ r₂ r₃ : Result} {t₁ t₂ t₃ : Shape} → Checks env r₁ t₁ → Checks env r₂ t₂
        → Checks env r₃ t₃ → within (Kind.bool ∷ []) t₁ ≡ true → Checks env (Result.choose at r₁ r₂ r₃) (join t₂ t₃)
    -- "Literals give their value's shape"
    checks_literal : {env : List Shape} {at : ℕ} {v : Value} → Checks env (Result.literal at v) (shape_of v)
    -- "`pack` gives rec."
    checks_pack
        : {env : List Shape} {at : ℕ} {ps : Pairs} {fs : Fields} → PairsCheck env ps fs
        → Checks env (Result.pack at ps) (only_rec (rec_of fs))

  -- the members of a pack, in byte order
  pub data PairsCheck : List Shape → Pairs → Fields → Type 0 where
    checks_no_pairs : {env : List Shape} → PairsCheck env no_pairs no_fields
    checks_pair
        : {env : List Shape} {n : Bytes} {r : Result} {ps : Pairs} {s : Shape} {fs : Fields} → Checks env r s
        → PairsCheck env ps fs → PairsCheck env (pair n r ps) (insert n s fs)

-- ---- what is refused, by number and place: "parts left to right, then the form itself; a part that is refused stops the form
-- that holds it"

pub data PlaceRefuses (env : List Shape) : Place → (number place : ℕ) → Type 0 where
  field_part
      : {at m q : ℕ} {n : Bytes} {p : Place} → PlaceRefuses env p m q → PlaceRefuses env (Place.field at n p) m q
  -- 9: "a kind not wanted", "place of form"
  field_kind
      : {at : ℕ} {n : Bytes} {p : Place} {s : Shape} → PlaceChecks env p s → within (Kind.rec ∷ Kind.null ∷ []) s ≡ false
      → PlaceRefuses env (Place.field at n p) 9 at
  -- 10: "name not listed"; "at one form 9 before 10"; of request Q-2: "A name that isn't listed still meets 10."
  field_name
      : {at : ℕ} {n : Bytes} {p : Place} {s : Shape} → PlaceChecks env p s → within (Kind.rec ∷ Kind.null ∷ []) s ≡ true → Unlisted n s
      → PlaceRefuses env (Place.field at n p) 10 at

mutual
  pub data Refuses : List Shape → Result → (number place : ℕ) → Type 0 where
    convert_part
        : {env : List Shape} {at m q : ℕ} {c : Conversion} {p : Place} → PlaceRefuses env p m q
        → Refuses env (Result.convert at c p) m q
    convert_kind
        : {env : List Shape} {at : ℕ} {c : Conversion} {p : Place} {ks : List Kind} {s t : Shape} → PlaceChecks env p s
        → Converts c ks t → within ks s ≡ false → Refuses env (Result.convert at c p) 9 at
    keep_part : {env : List Shape} {at m q : ℕ} {p : Place} → PlaceRefuses env p m q → Refuses env (Result.keep at p) m q
    count_part : {env : List Shape} {at m q : ℕ} {p : Place} → PlaceRefuses env p m q → Refuses env (Result.count at p) m q
    count_kind
        : {env : List Shape} {at : ℕ} {p : Place} {s : Shape} → PlaceChecks env p s → within (Kind.list ∷ Kind.null ∷ []) s ≡ false
        → Refuses env (Result.count at p) 9 at
    each_part
        : {env : List Shape} {at m q : ℕ} {p : Place} {r : Result} → PlaceRefuses env p m q → Refuses env (Result.each at p r) m q
    each_second_part
        : {env : List Shape} {at m q : ℕ} {p : Place} {r : Result} {s e : Shape} → PlaceChecks env p s → ElementShape s e
        → Refuses (e ∷ env) r m q → Refuses env (Result.each at p r) m q
    each_kind
        : {env : List Shape} {at : ℕ} {p : Place} {r : Result} {s e t : Shape} → PlaceChecks env p s → ElementShape s e
        → Checks (e ∷ env) r t → within (Kind.list ∷ Kind.null ∷ []) s ≡ false → Refuses env (Result.each at p r) 9 at
    when_part
        : {env : List Shape} {at m q : ℕ} {k : Test} {p : Place} {r₁ r₂ : Result} → PlaceRefuses env p m q
        → Refuses env (Result.when at k p r₁ r₂) m q
    when_second_part
        : {env : List Shape} {at m q : ℕ} {k : Test} {p : Place} {r₁ r₂ : Result} {ks : List Kind} {s s₁ : Shape}
        → PlaceChecks env p s → Means k ks → Cut ks s s₁ → Refuses (s₁ ∷ env) r₁ m q → Refuses env (Result.when at k p r₁ r₂) m q
    when_third_part
        : {env : List Shape} {at m q : ℕ} {k : Test} {p : Place} {r₁ r₂ : Result} {ks : List Kind} {s s₁ s₂ t₁ : Shape}
        → PlaceChecks env p s → Means k ks → Cut ks s s₁ → Checks (s₁ ∷ env) r₁ t₁ → TakenOut ks s s₂ → Refuses (s₂ ∷ env) r₂ m q
        → Refuses env (Result.when at k p r₁ r₂) m q
    if_part
        : {env : List Shape} {at m q : ℕ} {r₁ r₂ r₃ : Result} → Refuses env r₁ m q → Refuses env (Result.choose at r₁ r₂ r₃) m q
    if_second_part
        : {env : List Shape} {at m q : ℕ} {r₁ r₂ r₃ : Result} {t₁ : Shape} → Checks env r₁ t₁ → Refuses env r₂ m q
        → Refuses env (Result.choose at r₁ r₂ r₃) m q
    if_third_part
        : {env : List Shape} {at m q : ℕ} {r₁ r₂ r₃ : Result} {t₁ t₂ : Shape} → Checks env r₁ t₁ → Checks env r₂ t₂
        → Refuses env r₃ m q → Refuses env (Result.choose at r₁ r₂ r₃) m q
    if_kind
        : {env : List Shape} {at : ℕ} {r₁ r₂ r₃ : Result} {t₁ t₂ t₃ : Shape} → Checks env r₁ t₁ → Checks env r₂ t₂
        → Checks env r₃ t₃ → within (Kind.bool ∷ []) t₁ ≡ false → Refuses env (Result.choose at r₁ r₂ r₃) 9 at
    pack_part : {env : List Shape} {at m q : ℕ} {ps : Pairs} → PairsRefuse env ps m q → Refuses env (Result.pack at ps) m q

  pub data PairsRefuse : List Shape → Pairs → (number place : ℕ) → Type 0 where
    this_pair
        : {env : List Shape} {m q : ℕ} {n : Bytes} {r : Result} {ps : Pairs} → Refuses env r m q → PairsRefuse env (pair n r ps) m q
    later_pair
        : {env : List Shape} {m q : ℕ} {n : Bytes} {r : Result} {ps : Pairs} {s : Shape} → Checks env r s
        → PairsRefuse env ps m q → PairsRefuse env (pair n r ps) m q
