-- The grammar of right shape texts and readers over tokens, from the paper's sections Shapes and Readers. `X ts m us` says
-- that ts begins with an X that means m, and that us is left. A form keeps the place of its bracket; no other place is
-- looked at. No limit plays a part in what is right. Assumes nothing.
use Rattle.std.specs.Prelude.{ℕ, suc, ◌+◌, ◌≤◌, ◌<◌, max, ◌≡◌, ◌⊎◌, Bool, true, false, List, [], ◌∷◌}
use Rattle.definitions.specs.declared.Limits.{Limits}
use Rattle.definitions.specs.Bytes.{Bytes, bytes}
use Rattle.definitions.specs.Number.{Number, Numeral, beyond, number_of}
use Rattle.definitions.specs.Value.{Value}
use Rattle.definitions.specs.Shape.{Kind, all_kinds, Numeric, Shape, shape, Element, no_list, list_of}
use Rattle.definitions.specs.Shape.{Record, no_rec, rec_of, Fields, no_fields, field, has, behind}
use Rattle.definitions.specs.ShapeText.{kind_name}
use Rattle.definitions.specs.Reader.{Place, Result, Pairs, no_pairs, pair, Conversion, to_int, to_dec, to_bool, to_text, Test, among_pairs}
use Rattle.definitions.specs.Tokens.{Token, opening, closing, quoted, word, Placed}
use Rattle.laws.specs.Rfc8259 as Rfc

-- a token that stands at p
abbrev pub at : ℕ → Token → Placed
at p k = record { token = k; at = p }

-- a bracket at p and the word of its form
pub data Head (w : Bytes) (p : ℕ) : List Placed → List Placed → Type 0 where
  head : {x : ℕ} {ts : List Placed} → Head w p (at p opening ∷ at x (word w) ∷ ts) ts

-- a name
pub data Name (n : Bytes) : List Placed → List Placed → Type 0 where
  name : {x : ℕ} {ts : List Placed} → Name n (at x (quoted n) ∷ ts) ts

-- ---- shape texts

-- the words of those of these kinds that s has, in their order
pub data KindWords (s : Shape) : List Kind → List Placed → List Placed → Type 0 where
  no_kinds : {ts : List Placed} → KindWords s [] ts ts
  has_kind
      : {k : Kind} {ks : List Kind} {x : ℕ} {ts us : List Placed} → has k s ≡ true → KindWords s ks ts us
      → KindWords s (k ∷ ks) (at x (word (kind_name k)) ∷ ts) us
  lacks_kind
      : {k : Kind} {ks : List Kind} {ts us : List Placed} → has k s ≡ false → KindWords s ks ts us → KindWords s (k ∷ ks) ts us

mutual
  -- "After the kind words, in the order above, come the element shape, then `(member "name" SHAPE)` forms."
  pub data ShapeForm : List Placed → Shape → List Placed → Type 0 where
    shape_form
        : {p x : ℕ} {ts us vs ws xs : List Placed} {n b t : Bool} {m : Numeric} {e : Element} {r : Record}
        → Head (bytes "shape") p ts us → KindWords (shape n b m t e r) all_kinds us vs → ElementForm vs e ws
        → RecordForm ws r (at x closing ∷ xs) → ShapeForm ts (shape n b m t e r) xs

  -- "With list it has one element shape"
  pub data ElementForm : List Placed → Element → List Placed → Type 0 where
    no_element : {ts : List Placed} → ElementForm ts no_list ts
    element : {s : Shape} {ts us : List Placed} → ShapeForm ts s us → ElementForm ts (list_of s) us

  -- "with rec it has members"
  pub data RecordForm : List Placed → Record → List Placed → Type 0 where
    no_members : {ts : List Placed} → RecordForm ts no_rec ts
    members : {fs : Fields} {ts us : List Placed} → MembersForm ts fs us → RecordForm ts (rec_of fs) us

  -- `(member "name" SHAPE)` forms, "names strictly ascending by bytes"
  pub data MembersForm : List Placed → Fields → List Placed → Type 0 where
    no_member : {ts : List Placed} → MembersForm ts no_fields ts
    member
        : {p x y : ℕ} {n : Bytes} {s : Shape} {fs : Fields} {ts us vs ws : List Placed}
        → Head (bytes "member") p ts (at x (quoted n) ∷ us) → ShapeForm us s (at y closing ∷ vs) → behind n fs ≡ true
        → MembersForm vs fs ws → MembersForm ts (field n s fs) ws

-- a right shape text: one form and nothing behind
abbrev pub ShapeText : List Placed → Type 0
ShapeText ts = (s : Shape) × ShapeForm ts s []

-- ---- the parts of readers

-- a number word: RFC 8259's number, to the word's end, within refusal 4's limits
pub data NumberWord (w : Bytes) (d : Numeral) : Type 0 where
  number_word : Rfc.number w d [] → beyond d ≡ false → NumberWord w d

-- the number that it means
pub data NumberMeant (w : Bytes) : Number → Type 0 where
  number_meant : {d : Numeral} → NumberWord w d → NumberMeant w (number_of d)

-- N of `it`: "no minus and no fraction", and not "reaching past the document", where there are k bindings
pub data IndexWord (k : ℕ) (w : Bytes) : ℕ → Type 0 where
  index_word
      : {d : Numeral} → NumberWord w d → d.negative ≡ false → d.scale ≡ 0 → d.coefficient < k
      → IndexWord k w d.coefficient

-- "`(int P)`, `(dec P)`, `(bool P)`, `(text P)`"
pub data ConversionWord : Conversion → Bytes → Type 0 where
  int_word : ConversionWord to_int (bytes "int")
  dec_word : ConversionWord to_dec (bytes "dec")
  bool_word : ConversionWord to_bool (bytes "bool")
  text_word : ConversionWord to_text (bytes "text")

-- "K is null, bool, int, num, text, list or rec."
pub data TestWord : Test → Bytes → Type 0 where
  null_test : TestWord Test.null (bytes "null")
  bool_test : TestWord Test.bool (bytes "bool")
  int_test : TestWord Test.int (bytes "int")
  num_test : TestWord Test.num (bytes "num")
  text_test : TestWord Test.text (bytes "text")
  list_test : TestWord Test.list (bytes "list")
  rec_test : TestWord Test.rec (bytes "rec")

-- ---- readers: `X k ts m us` where there are k bindings, the document's among them

-- "Places: `(it N)` ..; `(field "name" P)`."
pub data PlaceForm (k : ℕ) : List Placed → Place → List Placed → Type 0 where
  it_form
      : {p x y n : ℕ} {w : Bytes} {ts us : List Placed} → Head (bytes "it") p ts (at x (word w) ∷ at y closing ∷ us)
      → IndexWord k w n → PlaceForm k ts (Place.it p n) us
  field_form
      : {p x y : ℕ} {n : Bytes} {q : Place} {ts us vs : List Placed} → Head (bytes "field") p ts (at x (quoted n) ∷ us)
      → PlaceForm k us q (at y closing ∷ vs) → PlaceForm k ts (Place.field p n q) vs

mutual
  pub data ResultForm : ℕ → List Placed → Result → List Placed → Type 0 where
    -- "`(int P)`, `(dec P)`, `(bool P)`, `(text P)`, `(keep P)`, `(count P)`"
    convert_form
        : {k p y : ℕ} {c : Conversion} {w : Bytes} {q : Place} {ts us vs : List Placed} → ConversionWord c w → Head w p ts us
        → PlaceForm k us q (at y closing ∷ vs) → ResultForm k ts (Result.convert p c q) vs
    keep_form
        : {k p y : ℕ} {q : Place} {ts us vs : List Placed} → Head (bytes "keep") p ts us
        → PlaceForm k us q (at y closing ∷ vs) → ResultForm k ts (Result.keep p q) vs
    count_form
        : {k p y : ℕ} {q : Place} {ts us vs : List Placed} → Head (bytes "count") p ts us
        → PlaceForm k us q (at y closing ∷ vs) → ResultForm k ts (Result.count p q) vs
    -- "`(each P R)`": it "binds the element in its R"
    each_form
        : {k p y : ℕ} {q : Place} {r : Result} {ts us vs ws : List Placed} → Head (bytes "each") p ts us
        → PlaceForm k us q vs → ResultForm (suc k) vs r (at y closing ∷ ws) → ResultForm k ts (Result.each p q r) ws
    -- "`(when K P R R)`": it "binds P's value in both its R"
    when_form
        : {k p x y : ℕ} {t : Test} {w : Bytes} {q : Place} {r₁ r₂ : Result} {ts us vs ws xs : List Placed}
        → Head (bytes "when") p ts (at x (word w) ∷ us) → TestWord t w → PlaceForm k us q vs → ResultForm (suc k) vs r₁ ws
        → ResultForm (suc k) ws r₂ (at y closing ∷ xs) → ResultForm k ts (Result.when p t q r₁ r₂) xs
    -- "`(if R R R)`"
    if_form
        : {k p y : ℕ} {r₁ r₂ r₃ : Result} {ts us vs ws xs : List Placed} → Head (bytes "if") p ts us → ResultForm k us r₁ vs
        → ResultForm k vs r₂ ws → ResultForm k ws r₃ (at y closing ∷ xs) → ResultForm k ts (Result.choose p r₁ r₂ r₃) xs
    -- "`(num N)`, `(str "t")`, `(yes)`, `(no)`, `(none)`"
    num_form
        : {k p x y : ℕ} {w : Bytes} {n : Number} {ts us : List Placed}
        → Head (bytes "num") p ts (at x (word w) ∷ at y closing ∷ us) → NumberMeant w n
        → ResultForm k ts (Result.literal p (Value.number n)) us
    str_form
        : {k p x y : ℕ} {t : Bytes} {ts us : List Placed} → Head (bytes "str") p ts (at x (quoted t) ∷ at y closing ∷ us)
        → ResultForm k ts (Result.literal p (Value.text t)) us
    yes_form
        : {k p y : ℕ} {ts us : List Placed} → Head (bytes "yes") p ts (at y closing ∷ us)
        → ResultForm k ts (Result.literal p (Value.bool true)) us
    no_form
        : {k p y : ℕ} {ts us : List Placed} → Head (bytes "no") p ts (at y closing ∷ us)
        → ResultForm k ts (Result.literal p (Value.bool false)) us
    none_form
        : {k p y : ℕ} {ts us : List Placed} → Head (bytes "none") p ts (at y closing ∷ us)
        → ResultForm k ts (Result.literal p Value.null) us
    -- "`(pack "name" R ...)` with zero or more pairs and distinct names"
    pack_form
        : {k p y : ℕ} {ps : Pairs} {ts us vs : List Placed} → Head (bytes "pack") p ts us
        → PairsForm k us ps (at y closing ∷ vs) → ResultForm k ts (Result.pack p ps) vs

  pub data PairsForm : ℕ → List Placed → Pairs → List Placed → Type 0 where
    no_pair : {k : ℕ} {ts : List Placed} → PairsForm k ts no_pairs ts
    next_pair
        : {k : ℕ} {n : Bytes} {r : Result} {ps : Pairs} {ts us vs ws : List Placed} → Name n ts us → ResultForm k us r vs
        → among_pairs n ps ≡ false → PairsForm k vs ps ws → PairsForm k ts (pair n r ps) ws

-- one result form and nothing behind
abbrev pub ResultText : List Placed → Type 0
ResultText ts = (r : Result) × ResultForm 1 ts r []

-- a right reader: "one result form", or no token at all (request Q-7)
abbrev pub ReaderText : List Placed → Type 0
ReaderText ts = ResultText ts ⊎ (ts ≡ [])

-- a place that stands alone
abbrev pub PlaceText : List Placed → Type 0
PlaceText ts = (p : Place) × PlaceForm 1 ts p []

-- ---- how large a reader is: every form counts, places too

-- how many forms
unfoldable pub place_forms : Place → ℕ
place_forms (Place.it p n) = 1
place_forms (Place.field p n q) = suc (place_forms q)

unfoldable mutual
  pub result_forms : Result → ℕ
  result_forms (Result.convert p c q) = suc (place_forms q)
  result_forms (Result.keep p q) = suc (place_forms q)
  result_forms (Result.count p q) = suc (place_forms q)
  result_forms (Result.each p q r) = suc (place_forms q + result_forms r)
  result_forms (Result.when p t q r₁ r₂) = suc (place_forms q + result_forms r₁ + result_forms r₂)
  result_forms (Result.choose p r₁ r₂ r₃) = suc (result_forms r₁ + result_forms r₂ + result_forms r₃)
  result_forms (Result.literal p v) = 1
  result_forms (Result.pack p ps) = suc (pairs_forms ps)

  pub pairs_forms : Pairs → ℕ
  pairs_forms no_pairs = 0
  pairs_forms (pair n r ps) = result_forms r + pairs_forms ps

-- how deep they are nested, the root counting 1
unfoldable pub place_levels : Place → ℕ
place_levels (Place.it p n) = 1
place_levels (Place.field p n q) = suc (place_levels q)

unfoldable mutual
  pub result_levels : Result → ℕ
  result_levels (Result.convert p c q) = suc (place_levels q)
  result_levels (Result.keep p q) = suc (place_levels q)
  result_levels (Result.count p q) = suc (place_levels q)
  result_levels (Result.each p q r) = suc (max (place_levels q) (result_levels r))
  result_levels (Result.when p t q r₁ r₂) = suc (max (place_levels q) (max (result_levels r₁) (result_levels r₂)))
  result_levels (Result.choose p r₁ r₂ r₃) = suc (max (result_levels r₁) (max (result_levels r₂) (result_levels r₃)))
  result_levels (Result.literal p v) = 1
  result_levels (Result.pack p ps) = suc (pairs_levels ps)

  pub pairs_levels : Pairs → ℕ
  pairs_levels no_pairs = 0
  pairs_levels (pair n r ps) = max (result_levels r) (pairs_levels ps)

-- ---- readers within limits, and what they mean

pub data ReaderWithin (l : Limits) : List Placed → Result → Type 0 where
  one_form
      : {ts : List Placed} {r : Result} → ResultForm 1 ts r [] → result_forms r ≤ l.values → result_levels r ≤ l.nesting
      → ReaderWithin l ts r
  -- "An empty text, or one of white space only, shall mean `(none)`: .. its place is 0." (request Q-7) No form is written in it, so that
  -- none counts
  no_token : ReaderWithin l [] (Result.literal 0 Value.null)
