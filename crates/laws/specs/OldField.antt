-- Checking and running as document 01 has them, before request Q-2: `field` wants rec, and no null. But for `field` they go as those of
-- `definitions` do. Only what is claimed of request Q-2 names them. Assumes nothing.
use Rattle.std.specs.Prelude.{ℕ, ◌≡◌, true, false, List, [], ◌∷◌, get_or}
use Rattle.std.proofs.Math.Option.{none, some}
use Rattle.definitions.specs.declared.Limits.{Limits}
use Rattle.definitions.specs.Bytes.{Bytes}
use Rattle.definitions.specs.Outcome.{Outcome, ok, refused, ◌>>=◌}
use Rattle.definitions.specs.Value.{Value, Members, no_members, member, count}
use Rattle.definitions.specs.Shape.{Kind, among, int_only, Shape, list_of, rec_of, Fields, no_fields, nothing, has, element_of, record_of}
use Rattle.definitions.specs.Shape.{only_numeric, only_list, only_rec}
use Rattle.definitions.specs.Join.{join, insert, shape_of}
use Rattle.definitions.specs.Admits.{kind_of}
use Rattle.definitions.specs.Reader.{Place, Result, Pairs, no_pairs, pair}
use Rattle.definitions.specs.Checking.{convert_kinds, list_kinds, if_kinds, wants, listed, convert_shape, element_shape, test_kinds, cut_to, taken_out}
use Rattle.definitions.specs.Running.{Ran, gives, enter, stuck_unless, member_of, members_of, converted, items_of, int_value, truth, run_items}

-- a rule of `field`: what it makes of the shape of its place, or of the value
abbrev pub FieldRule : Type 0 → Type 0
FieldRule A = (at : ℕ) → Bytes → A → Outcome ℕ A

-- ---- checking

-- "`field` wants kinds within rec and the name listed, and gives that member's shape."
unfoldable pub old_field_shape : FieldRule Shape
old_field_shape at n s = wants at (Kind.rec ∷ []) s (listed at n (record_of s))

-- the same, but where the place has null it stops with 0, a number that no refusal has
unfoldable pub null_shape_told : FieldRule Shape
null_shape_told at n s = elim (has Kind.null s) [ true ↦ refused 0 at | false ↦ old_field_shape at n s ]

unfoldable pub check_place_by : Place → FieldRule Shape → List Shape → Outcome ℕ Shape
check_place_by (Place.it at n) rule env = ok (get_or env n nothing)
check_place_by (Place.field at n p) rule env = check_place_by p rule env >>= λ s. rule at n s

unfoldable mutual
  -- checking by a rule of `field`
  pub check_by : Result → FieldRule Shape → List Shape → Outcome ℕ Shape
  check_by (Result.convert at c p) rule env = check_place_by p rule env >>= λ s. wants at (convert_kinds c) s (ok (convert_shape c))
  check_by (Result.keep at p) rule env = check_place_by p rule env
  check_by (Result.count at p) rule env = check_place_by p rule env >>= λ s. wants at list_kinds s (ok (only_numeric int_only))
  check_by (Result.each at p r) rule env =
      check_place_by p rule env
      >>= λ s. check_by r rule (element_shape (element_of s) ∷ env) >>= λ t. wants at list_kinds s (ok (only_list (list_of t)))
  check_by (Result.when at k p r₁ r₂) rule env =
      check_place_by p rule env
      >>= λ s. check_by r₁ rule (cut_to k s ∷ env) >>= λ t₁. check_by r₂ rule (taken_out k s ∷ env) >>= λ t₂. ok (join t₁ t₂)
  check_by (Result.choose at r₁ r₂ r₃) rule env =
      check_by r₁ rule env
      >>= λ t₁. check_by r₂ rule env >>= λ t₂. check_by r₃ rule env >>= λ t₃. wants at if_kinds t₁ (ok (join t₂ t₃))
  check_by (Result.literal at v) rule env = ok (shape_of v)
  check_by (Result.pack at ps) rule env = check_pairs_by ps rule env >>= λ fs. ok (only_rec (rec_of fs))

  pub check_pairs_by : Pairs → FieldRule Shape → List Shape → Outcome ℕ Fields
  check_pairs_by no_pairs rule env = ok no_fields
  check_pairs_by (pair n r ps) rule env = check_by r rule env >>= λ s. check_pairs_by ps rule env >>= λ fs. ok (insert n s fs)

unfoldable pub old_check_reader : Result → Shape → Outcome ℕ Shape
old_check_reader r s = check_by r old_field_shape (s ∷ [])

-- the check comes to a `field` of a place that has null, there, by document 01
abbrev pub NullNotWanted : Result → Shape → (place : ℕ) → Type 0
NullNotWanted r s p = check_by r null_shape_told (s ∷ []) ≡ refused 0 p

-- ---- running

-- "`field` on a non-record .. is stuck"
unfoldable pub old_field_value : FieldRule Value
old_field_value at n v = stuck_unless at (Kind.rec ∷ []) v (ok (member_of n (members_of v)))

-- the same, but on null it stops with 0, a number that no refusal has
unfoldable pub null_value_told : FieldRule Value
null_value_told at n v = elim (among (kind_of v) (Kind.null ∷ [])) [ true ↦ refused 0 at | false ↦ old_field_value at n v ]

unfoldable pub run_place_by : Place → FieldRule Value → Limits → List Value → ℕ → Outcome ℕ (Ran Value)
run_place_by (Place.it at k) rule l env n = enter l at n >>= λ n₁. gives (get_or env k Value.null) n₁
run_place_by (Place.field at m p) rule l env n =
    enter l at n >>= λ n₁. run_place_by p rule l env n₁ >>= λ x. rule at m x.result >>= λ v. gives v x.steps

unfoldable mutual
  -- running by a rule of `field`
  pub run_by : Result → FieldRule Value → Limits → List Value → ℕ → Outcome ℕ (Ran Value)
  run_by (Result.convert at c p) rule l env n =
      enter l at n
      >>= λ n₁. run_place_by p rule l env n₁
      >>= λ x. stuck_unless at (convert_kinds c) x.result (gives (converted c x.result) x.steps)
  run_by (Result.keep at p) rule l env n = enter l at n >>= λ n₁. run_place_by p rule l env n₁
  run_by (Result.count at p) rule l env n =
      enter l at n
      >>= λ n₁. run_place_by p rule l env n₁
      >>= λ x. stuck_unless at list_kinds x.result (gives (int_value (count (items_of x.result))) x.steps)
  run_by (Result.each at p r) rule l env n =
      enter l at n
      >>= λ n₁. run_place_by p rule l env n₁
      >>= λ x.
      stuck_unless
      at
      list_kinds
      x.result
      (run_items (λ v n₂. run_by r rule l (v ∷ env) n₂) (items_of x.result) x.steps
      >>= λ xs. gives (Value.list xs.result) xs.steps)
  run_by (Result.when at k p r₁ r₂) rule l env n =
      enter l at n
      >>= λ n₁. run_place_by p rule l env n₁
      >>= λ x.
      elim (among (kind_of x.result) (test_kinds k)) [
        | true ↦ run_by r₁ rule l (x.result ∷ env) x.steps
        | false ↦ run_by r₂ rule l (x.result ∷ env) x.steps
      ]
  run_by (Result.choose at r₁ r₂ r₃) rule l env n =
      enter l at n
      >>= λ n₁. run_by r₁ rule l env n₁
      >>= λ x.
      elim (truth x.result) [
        | none ↦ refused 12 at
        | some b ↦ elim b [ true ↦ run_by r₂ rule l env x.steps | false ↦ run_by r₃ rule l env x.steps ]
      ]
  run_by (Result.literal at v) rule l env n = enter l at n >>= λ n₁. gives v n₁
  run_by (Result.pack at ps) rule l env n =
      enter l at n >>= λ n₁. run_pairs_by ps rule l env n₁ >>= λ x. gives (Value.rec x.result) x.steps

  pub run_pairs_by : Pairs → FieldRule Value → Limits → List Value → ℕ → Outcome ℕ (Ran Members)
  run_pairs_by no_pairs rule l env n = gives no_members n
  run_pairs_by (pair m r ps) rule l env n =
      run_by r rule l env n
      >>= λ x. run_pairs_by ps rule l env x.steps
      >>= λ xs. gives (member m x.result xs.result) xs.steps

unfoldable pub old_run_reader : Result → Limits → Value → Outcome ℕ (Ran Value)
old_run_reader r l v = run_by r old_field_value l (v ∷ []) 0

-- the run comes to a `field` on null, there, by document 01
abbrev pub StuckOnNull : Result → Limits → Value → (place : ℕ) → Type 0
StuckOnNull r l v p = run_by r null_value_told l (v ∷ []) 0 ≡ refused 0 p
