-- The rules of running as relations, in the words of documents 01 and 02: which value a form gives and how many steps are counted
-- then, where it is stuck and where the steps run out. A clause is a sentence of the paper; none goes by way of the functions
-- that run. Assumes nothing.
use Rattle.std.specs.Prelude.{ℕ, suc, ◌*◌, ◌^◌, ◌<◌, ◌≤◌, ◌≡◌, true, false, List, [], ◌∷◌, get_or}
use Rattle.definitions.specs.declared.Limits.{Limits}
use Rattle.definitions.specs.Bytes.{Bytes, same}
use Rattle.definitions.specs.Number.{Number}
use Rattle.definitions.specs.Value.{Value, Items, no_items, item, Members, no_members, member, count}
use Rattle.definitions.specs.Shape.{Kind, among, Shape}
use Rattle.definitions.specs.Admits.{kind_of}
use Rattle.definitions.specs.Reader.{Place, Conversion, to_int, to_dec, to_bool, to_text, Test, Result, Pairs, no_pairs, pair}
use Rattle.laws.specs.CheckRules.{Converts, Means}

-- ---- what the forms read of a value

-- the value is of one of these kinds: "(int: no decimal; num: int or decimal)"
abbrev pub Is : List Kind → Value → Type 0
Is ks v = among (kind_of v) ks ≡ true

abbrev pub IsNot : List Kind → Value → Type 0
IsNot ks v = among (kind_of v) ks ≡ false

-- the member of this name, in order
pub data Member (n : Bytes) : Members → Value → Type 0 where
  -- "A missing member reads as null."
  missing : Member n no_members Value.null
  this : {m : Bytes} {v : Value} {ms : Members} → same n m ≡ true → Member n (member m v ms) v
  later : {m : Bytes} {v w : Value} {ms : Members} → same n m ≡ false → Member n ms w → Member n (member m v ms) w

pub data Field (n : Bytes) : Value → Value → Type 0 where
  of_record : {ms : Members} {v : Value} → Member n ms v → Field n (Value.rec ms) v
  -- request Q-2: "On null it reads null."
  through_null : Field n Value.null Value.null

-- what `count` counts and `each` goes through
pub data Elements : Value → Items → Type 0 where
  of_list : {vs : Items} → Elements (Value.list vs) vs
  -- "Null counts 0 and gives the empty list under `each`."
  of_null : Elements Value.null no_items

-- an int
abbrev pub counted : ℕ → Value
counted n = Value.number (record { negative = false; coefficient = n; scale = 0 })

-- what a conversion makes of a value
pub data Converted : Conversion → Value → Value → Type 0 where
  -- request Q-5: "the int conversion, which writes it without fraction": the same number, at scale 0
  without_fraction
      : {x : Number} {c : ℕ} → c * 10 ^ x.scale ≡ x.coefficient
      → Converted to_int (Value.number x) (Value.number (record { negative = x.negative; coefficient = c; scale = 0 }))
  -- "Conversions give the value they were handed."
  dec_handed : {v : Value} → Converted to_dec v v
  bool_handed : {v : Value} → Converted to_bool v v
  text_handed : {v : Value} → Converted to_text v v

-- the place of a form's bracket
abbrev pub place_bracket : Place → ℕ
place_bracket (Place.it at k) = at
place_bracket (Place.field at n p) = at

abbrev pub bracket : Result → ℕ
bracket (Result.convert at c p) = at
bracket (Result.keep at p) = at
bracket (Result.count at p) = at
bracket (Result.each at p r) = at
bracket (Result.when at k p r₁ r₂) = at
bracket (Result.choose at r₁ r₂ r₃) = at
bracket (Result.literal at v) = at
bracket (Result.pack at ps) = at

module _ (l : Limits) where
  -- "A form counts one step when entered, each time", behind n steps within the limit
  abbrev Enters : ℕ → Type 0
  Enters n = n < l.steps

  -- "run: step 65,537"
  abbrev Out : ℕ → Type 0
  Out n = l.steps ≤ n

  -- ---- what is given: with the values of the bindings, innermost first, behind n steps a form gives v behind m

  pub data PlaceRuns (env : List Value) : (n : ℕ) → Place → (v : Value) → (m : ℕ) → Type 0 where
    -- "`(it N)`, the N-th binding outward, 0 innermost"
    runs_it : {n at k : ℕ} → Enters n → PlaceRuns env n (Place.it at k) (get_or env k Value.null) (suc n)
    runs_field
        : {n at m : ℕ} {name : Bytes} {p : Place} {v w : Value} → Enters n → PlaceRuns env (suc n) p v m → Field name v w
        → PlaceRuns env n (Place.field at name p) w m

  -- "Parts run left to right, only the chosen branch"
  mutual
    pub data Runs : List Value → (n : ℕ) → Result → (v : Value) → (m : ℕ) → Type 0 where
      runs_convert
          : {env : List Value} {n at m : ℕ} {c : Conversion} {p : Place} {ks : List Kind} {s : Shape} {v w : Value} → Enters n
          → PlaceRuns env (suc n) p v m → Converts c ks s → Is ks v → Converted c v w → Runs env n (Result.convert at c p) w m
      runs_keep
          : {env : List Value} {n at m : ℕ} {p : Place} {v : Value} → Enters n → PlaceRuns env (suc n) p v m
          → Runs env n (Result.keep at p) v m
      runs_count
          : {env : List Value} {n at m : ℕ} {p : Place} {v : Value} {vs : Items} → Enters n → PlaceRuns env (suc n) p v m
          → Elements v vs → Runs env n (Result.count at p) (counted (count vs)) m
      runs_each
          : {env : List Value} {n at m k : ℕ} {p : Place} {r : Result} {v : Value} {vs ws : Items} → Enters n
          → PlaceRuns env (suc n) p v m → Elements v vs → ItemsRun env m r vs ws k → Runs env n (Result.each at p r) (Value.list ws) k
      -- "`when` takes its first R where the value is a K (int: no decimal; num: int or decimal)"
      runs_when_first
          : {env : List Value} {n at m k : ℕ} {t : Test} {p : Place} {r₁ r₂ : Result} {ks : List Kind} {v w : Value} → Enters n
          → PlaceRuns env (suc n) p v m → Means t ks → Is ks v → Runs (v ∷ env) m r₁ w k → Runs env n (Result.when at t p r₁ r₂) w k
      runs_when_second
          : {env : List Value} {n at m k : ℕ} {t : Test} {p : Place} {r₁ r₂ : Result} {ks : List Kind} {v w : Value} → Enters n
          → PlaceRuns env (suc n) p v m → Means t ks → IsNot ks v → Runs (v ∷ env) m r₂ w k
          → Runs env n (Result.when at t p r₁ r₂) w k
      -- "`if` its second on true"
      runs_if_true
          : {env : List Value} {n at m k : ℕ} {r₁ r₂ r₃ : Result} {v : Value} → Enters n → Runs env (suc n) r₁ (Value.bool true) m
          → Runs env m r₂ v k → Runs env n (Result.choose at r₁ r₂ r₃) v k
      runs_if_false
          : {env : List Value} {n at m k : ℕ} {r₁ r₂ r₃ : Result} {v : Value} → Enters n → Runs env (suc n) r₁ (Value.bool false) m
          → Runs env m r₃ v k → Runs env n (Result.choose at r₁ r₂ r₃) v k
      runs_literal : {env : List Value} {n at : ℕ} {v : Value} → Enters n → Runs env n (Result.literal at v) v (suc n)
      runs_pack
          : {env : List Value} {n at m : ℕ} {ps : Pairs} {ms : Members} → Enters n → PairsRun env (suc n) ps ms m
          → Runs env n (Result.pack at ps) (Value.rec ms) m

    -- "`each` binds the element in its R"
    pub data ItemsRun : List Value → (n : ℕ) → Result → (vs ws : Items) → (m : ℕ) → Type 0 where
      runs_no_items : {env : List Value} {n : ℕ} {r : Result} → ItemsRun env n r no_items no_items n
      runs_item
          : {env : List Value} {n m k : ℕ} {r : Result} {v w : Value} {vs ws : Items} → Runs (v ∷ env) n r w m
          → ItemsRun env m r vs ws k → ItemsRun env n r (item v vs) (item w ws) k

    pub data PairsRun : List Value → (n : ℕ) → Pairs → Members → (m : ℕ) → Type 0 where
      runs_no_pairs : {env : List Value} {n : ℕ} → PairsRun env n no_pairs no_members n
      runs_pair
          : {env : List Value} {n m k : ℕ} {name : Bytes} {r : Result} {ps : Pairs} {v : Value} {ms : Members} → Runs env n r v m
          → PairsRun env m ps ms k → PairsRun env n (pair name r ps) (member name v ms) k

  -- ---- what is refused, by number and place: 12 where a form is stuck, 13 where one more step would be over the limit

  pub data PlaceHalts (env : List Value) : (n : ℕ) → Place → (number place : ℕ) → Type 0 where
    place_out : {n : ℕ} {p : Place} → Out n → PlaceHalts env n p 13 (place_bracket p)
    field_part
        : {n at m q : ℕ} {name : Bytes} {p : Place} → Enters n → PlaceHalts env (suc n) p m q
        → PlaceHalts env n (Place.field at name p) m q
    -- "`field` on a non-record .. is stuck, at that form.", but on null
    field_stuck
        : {n at m : ℕ} {name : Bytes} {p : Place} {v : Value} → Enters n → PlaceRuns env (suc n) p v m
        → IsNot (Kind.rec ∷ Kind.null ∷ []) v → PlaceHalts env n (Place.field at name p) 12 at

  mutual
    pub data Halts : List Value → (n : ℕ) → Result → (number place : ℕ) → Type 0 where
      out : {env : List Value} {n : ℕ} {r : Result} → Out n → Halts env n r 13 (bracket r)
      convert_part
          : {env : List Value} {n at m q : ℕ} {c : Conversion} {p : Place} → Enters n → PlaceHalts env (suc n) p m q
          → Halts env n (Result.convert at c p) m q
      -- "a conversion, `count` or `each` on a kind it doesn't want .. is stuck, at that form."
      convert_stuck
          : {env : List Value} {n at m : ℕ} {c : Conversion} {p : Place} {ks : List Kind} {s : Shape} {v : Value} → Enters n
          → PlaceRuns env (suc n) p v m → Converts c ks s → IsNot ks v → Halts env n (Result.convert at c p) 12 at
      keep_part
          : {env : List Value} {n at m q : ℕ} {p : Place} → Enters n → PlaceHalts env (suc n) p m q → Halts env n (Result.keep at p) m q
      count_part
          : {env : List Value} {n at m q : ℕ} {p : Place} → Enters n → PlaceHalts env (suc n) p m q → Halts env n (Result.count at p) m q
      count_stuck
          : {env : List Value} {n at m : ℕ} {p : Place} {v : Value} → Enters n → PlaceRuns env (suc n) p v m
          → IsNot (Kind.list ∷ Kind.null ∷ []) v → Halts env n (Result.count at p) 12 at
      each_part
          : {env : List Value} {n at m q : ℕ} {p : Place} {r : Result} → Enters n → PlaceHalts env (suc n) p m q
          → Halts env n (Result.each at p r) m q
      each_stuck
          : {env : List Value} {n at m : ℕ} {p : Place} {r : Result} {v : Value} → Enters n → PlaceRuns env (suc n) p v m
          → IsNot (Kind.list ∷ Kind.null ∷ []) v → Halts env n (Result.each at p r) 12 at
      each_items
          : {env : List Value} {n at i m q : ℕ} {p : Place} {r : Result} {v : Value} {vs : Items} → Enters n
          → PlaceRuns env (suc n) p v i → Elements v vs → ItemsHalt env i r vs m q → Halts env n (Result.each at p r) m q
      when_part
          : {env : List Value} {n at m q : ℕ} {t : Test} {p : Place} {r₁ r₂ : Result} → Enters n → PlaceHalts env (suc n) p m q
          → Halts env n (Result.when at t p r₁ r₂) m q
      when_first
          : {env : List Value} {n at i m q : ℕ} {t : Test} {p : Place} {r₁ r₂ : Result} {ks : List Kind} {v : Value} → Enters n
          → PlaceRuns env (suc n) p v i → Means t ks → Is ks v → Halts (v ∷ env) i r₁ m q → Halts env n (Result.when at t p r₁ r₂) m q
      when_second
          : {env : List Value} {n at i m q : ℕ} {t : Test} {p : Place} {r₁ r₂ : Result} {ks : List Kind} {v : Value} → Enters n
          → PlaceRuns env (suc n) p v i → Means t ks → IsNot ks v → Halts (v ∷ env) i r₂ m q
          → Halts env n (Result.when at t p r₁ r₂) m q
      if_part
          : {env : List Value} {n at m q : ℕ} {r₁ r₂ r₃ : Result} → Enters n → Halts env (suc n) r₁ m q
          → Halts env n (Result.choose at r₁ r₂ r₃) m q
      -- "or `if` on a non-bool is stuck, at that form."
      if_stuck
          : {env : List Value} {n at i : ℕ} {r₁ r₂ r₃ : Result} {v : Value} → Enters n → Runs env (suc n) r₁ v i
          → IsNot (Kind.bool ∷ []) v → Halts env n (Result.choose at r₁ r₂ r₃) 12 at
      if_true
          : {env : List Value} {n at i m q : ℕ} {r₁ r₂ r₃ : Result} → Enters n → Runs env (suc n) r₁ (Value.bool true) i
          → Halts env i r₂ m q → Halts env n (Result.choose at r₁ r₂ r₃) m q
      if_false
          : {env : List Value} {n at i m q : ℕ} {r₁ r₂ r₃ : Result} → Enters n → Runs env (suc n) r₁ (Value.bool false) i
          → Halts env i r₃ m q → Halts env n (Result.choose at r₁ r₂ r₃) m q
      pack_part
          : {env : List Value} {n at m q : ℕ} {ps : Pairs} → Enters n → PairsHalt env (suc n) ps m q
          → Halts env n (Result.pack at ps) m q

    pub data ItemsHalt : List Value → (n : ℕ) → Result → Items → (number place : ℕ) → Type 0 where
      this_item
          : {env : List Value} {n m q : ℕ} {r : Result} {v : Value} {vs : Items} → Halts (v ∷ env) n r m q
          → ItemsHalt env n r (item v vs) m q
      later_item
          : {env : List Value} {n i m q : ℕ} {r : Result} {v w : Value} {vs : Items} → Runs (v ∷ env) n r w i
          → ItemsHalt env i r vs m q → ItemsHalt env n r (item v vs) m q

    pub data PairsHalt : List Value → (n : ℕ) → Pairs → (number place : ℕ) → Type 0 where
      this_pair
          : {env : List Value} {n m q : ℕ} {name : Bytes} {r : Result} {ps : Pairs} → Halts env n r m q
          → PairsHalt env n (pair name r ps) m q
      later_pair
          : {env : List Value} {n i m q : ℕ} {name : Bytes} {r : Result} {ps : Pairs} {v : Value} → Runs env n r v i
          → PairsHalt env i ps m q → PairsHalt env n (pair name r ps) m q

  -- "is stuck, at that form"
  abbrev pub Stuck : List Value → (n : ℕ) → Result → (place : ℕ) → Type 0
  Stuck env n r p = Halts env n r 12 p

  -- "run: step 65,537", at the form that would count it
  abbrev pub OutOfSteps : List Value → (n : ℕ) → Result → (place : ℕ) → Type 0
  OutOfSteps env n r p = Halts env n r 13 p
