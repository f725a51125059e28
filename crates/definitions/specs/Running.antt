-- Running a reader on a document: "A form counts one step when entered, each time. Parts run left to right, only the
-- chosen branch". Refusals 12 and 13 stand at the form's bracket. Assumes nothing.
use Rattle.std.specs.Prelude.{ℕ, suc, Bool, true, false, List, [], ◌∷◌, ltb, get_or}
use Rattle.std.proofs.Math.Option.{Option, none, some}
use Rattle.definitions.specs.declared.Limits.{Limits}
use Rattle.definitions.specs.Bytes.{Bytes, same}
use Rattle.definitions.specs.Outcome.{Outcome, ok, refused, ◌>>=◌}
use Rattle.definitions.specs.Number.{whole}
use Rattle.definitions.specs.Value.{Value, Items, no_items, item, Members, no_members, member, count}
use Rattle.definitions.specs.Shape.{Kind, among}
use Rattle.definitions.specs.Admits.{kind_of}
use Rattle.definitions.specs.Reader.{Place, Conversion, to_int, to_dec, to_bool, to_text, Result, Pairs, no_pairs, pair}
use Rattle.definitions.specs.Checking.{field_kinds, convert_kinds, list_kinds, test_kinds}

-- what ran, and the steps counted when it had
pub record Ran (A : Type 0) : Type 0 where
  pub result : A
  pub steps : ℕ

-- a result behind n steps
unfoldable pub gives : {A : Type 0} → A → ℕ → Outcome ℕ (Ran A)
gives a n = ok (record { result = a; steps = n })

-- entering a form behind n steps: one more, or refusal 13 at it
unfoldable pub enter : Limits → (at n : ℕ) → Outcome ℕ ℕ
enter l at n = elim (ltb n l.steps) [ true ↦ ok (suc n) | false ↦ refused 13 at ]

-- refusal 12 at the form unless the value's kind is among these
unfoldable pub stuck_unless : {A : Type 0} → (at : ℕ) → List Kind → Value → Outcome ℕ A → Outcome ℕ A
stuck_unless at ks v out = elim (among (kind_of v) ks) [ true ↦ out | false ↦ refused 12 at ]

-- ---- what each form does with a value

-- "A missing member reads as null."
unfoldable pub member_of : Bytes → Members → Value
member_of n no_members = Value.null
member_of n (member m v ms) = elim (same n m) [ true ↦ v | false ↦ member_of n ms ]

-- the members of a record; null has none, and so "on null it reads null" (request Q-2); nor has anything else
unfoldable pub members_of : Value → Members
members_of Value.null = no_members
members_of (Value.bool b) = no_members
members_of (Value.number x) = no_members
members_of (Value.text t) = no_members
members_of (Value.list vs) = no_members
members_of (Value.rec ms) = ms

-- "`field` on a non-record .. is stuck", but on null
unfoldable pub field_value : (at : ℕ) → Bytes → Value → Outcome ℕ Value
field_value at n v = stuck_unless at field_kinds v (ok (member_of n (members_of v)))

-- an int without its fraction; of anything but a number, itself
unfoldable pub whole_value : Value → Value
whole_value Value.null = Value.null
whole_value (Value.bool b) = Value.bool b
whole_value (Value.number x) = Value.number (whole x)
whole_value (Value.text t) = Value.text t
whole_value (Value.list vs) = Value.list vs
whole_value (Value.rec ms) = Value.rec ms

-- "Conversions give the value they were handed", but for request Q-5: "the int conversion, which writes it without fraction"
unfoldable pub converted : Conversion → Value → Value
converted to_int v = whole_value v
converted to_dec v = v
converted to_bool v = v
converted to_text v = v

-- "Null counts 0 and gives the empty list under `each`."
unfoldable pub items_of : Value → Items
items_of Value.null = no_items
items_of (Value.bool b) = no_items
items_of (Value.number x) = no_items
items_of (Value.text t) = no_items
items_of (Value.list vs) = vs
items_of (Value.rec ms) = no_items

-- a count as an int
unfoldable pub int_value : ℕ → Value
int_value n = Value.number (record { negative = false; coefficient = n; scale = 0 })

-- what a condition says, if it is a bool
unfoldable pub truth : Value → Option Bool
truth Value.null = none
truth (Value.bool b) = some b
truth (Value.number x) = none
truth (Value.text t) = none
truth (Value.list vs) = none
truth (Value.rec ms) = none

-- ---- running, with the values of the bindings, innermost first, behind n steps

-- the value of a place
unfoldable pub run_place : Place → Limits → List Value → ℕ → Outcome ℕ (Ran Value)
run_place (Place.it at k) l env n = enter l at n >>= λ n₁. gives (get_or env k Value.null) n₁
run_place (Place.field at m p) l env n =
    enter l at n >>= λ n₁. run_place p l env n₁ >>= λ x. field_value at m x.result >>= λ v. gives v x.steps

-- the results for each element in turn
unfoldable pub run_items : (Value → ℕ → Outcome ℕ (Ran Value)) → Items → ℕ → Outcome ℕ (Ran Items)
run_items body no_items n = gives no_items n
run_items body (item v vs) n =
    body v n >>= λ x. run_items body vs x.steps >>= λ xs. gives (item x.result xs.result) xs.steps

-- the value of a result; "`when` takes its first R where the value is a K (int: no decimal; num: int or decimal), `if` its
-- second on true"
unfoldable mutual
  pub run : Result → Limits → List Value → ℕ → Outcome ℕ (Ran Value)
  run (Result.convert at c p) l env n =
      enter l at n
      >>= λ n₁. run_place p l env n₁
      >>= λ x. stuck_unless at (convert_kinds c) x.result (gives (converted c x.result) x.steps)
  run (Result.keep at p) l env n = enter l at n >>= λ n₁. run_place p l env n₁
  run (Result.count at p) l env n =
      enter l at n
      >>= λ n₁. run_place p l env n₁
      >>= λ x. stuck_unless at list_kinds x.result (gives (int_value (count (items_of x.result))) x.steps)
  run (Result.each at p r) l env n =
      enter l at n
      >>= λ n₁. run_place p l env n₁
      >>= λ x.
      stuck_unless
      at
      list_kinds
      x.result
      (run_items (λ v n₂. run r l (v ∷ env) n₂) (items_of x.result) x.steps
      >>= λ xs. gives (Value.list xs.result) xs.steps)
  run (Result.when at k p r₁ r₂) l env n =
      enter l at n
      >>= λ n₁. run_place p l env n₁
      >>= λ x.
      elim (among (kind_of x.result) (test_kinds k)) [
        | true ↦ run r₁ l (x.result ∷ env) x.steps
        | false ↦ run r₂ l (x.result ∷ env) x.steps
      ]
  run (Result.choose at r₁ r₂ r₃) l env n =
      enter l at n
      >>= λ n₁. run r₁ l env n₁
      >>= λ x.
      elim (truth x.result) [
        | none ↦ refused 12 at
        | some b ↦ elim b [ true ↦ run r₂ l env x.steps | false ↦ run r₃ l env x.steps ]
      ]
  run (Result.literal at v) l env n = enter l at n >>= λ n₁. gives v n₁
  run (Result.pack at ps) l env n =
      enter l at n >>= λ n₁. run_pairs ps l env n₁ >>= λ x. gives (Value.rec x.result) x.steps

  -- the members of a pack's value, in the order of the reader
  pub run_pairs : Pairs → Limits → List Value → ℕ → Outcome ℕ (Ran Members)
  run_pairs no_pairs l env n = gives no_members n
  run_pairs (pair m r ps) l env n =
      run r l env n
      >>= λ x. run_pairs ps l env x.steps
      >>= λ xs. gives (member m x.result xs.result) xs.steps

-- what a reader gives, with the document bound to a value
unfoldable pub run_reader : Result → Limits → Value → Outcome ℕ (Ran Value)
run_reader r l v = run r l (v ∷ []) 0
