-- What the int conversion gives (request Q-5): the number of its place at scale 0, admitted by int, that reads back. Assumes nothing.
use Rattle.std.specs.Prelude.{ℕ, ◌*◌, ◌^◌, ◌≤◌, ◌≡◌, refl, true, [], ◌∷◌}
use Rattle.std.proofs.Common.{sym, ap, ◌∙◌, subst, le_trans, lit≤}
use Rattle.definitions.specs.declared.Limits.{Limits}
use Rattle.definitions.specs.Bytes.{Bytes}
use Rattle.definitions.specs.Outcome.{ok}
use Rattle.definitions.specs.Number.{Number, is_int}
use Rattle.definitions.specs.Value.{Value, size, nesting}
use Rattle.definitions.specs.Json.{read_json}
use Rattle.definitions.specs.Plain.{plain}
use Rattle.definitions.specs.Shape.{Kind, int_only, Shape, has, only_numeric}
use Rattle.definitions.specs.Join.{shape_of, numeric_of}
use Rattle.definitions.specs.Admits.{kind_of, admits, admitted}
use Rattle.definitions.specs.Reader.{Place, to_int, Result, read_reader}
use Rattle.definitions.specs.Running.{Ran, run_reader}
use Rattle.laws.specs.LimitRanges.{bounds_of}
use Rattle.laws.specs.Chain.{InRange}
use Rattle.laws.specs.Ints.{unscaled_int, is_an_int}
use Rattle.laws.specs.SoundKinds.{int_admits}
use Rattle.laws.specs.CheckRules.{by_int}
use Rattle.laws.specs.RunRules.{without_fraction, PlaceRuns, Runs, runs_convert}
use Rattle.laws.specs.RunRulesHold.{runs_exactly}
use Rattle.laws.proofs.WrittenDocuments.{result_reads_back}

-- ---- numbers that are ints

pub int_shaped : (x : Number) → is_int x ≡ true → shape_of (Value.number x) ≡ only_numeric int_only
unfolding shape_of numeric_of
int_shaped x h = rw (h, numeric_of) refl

pub int_admitted : (s : Shape) (x : Number) → is_int x ≡ true → admits s (Value.number x) ≡ has Kind.int s
unfolding admits admitted kind_of
int_admitted s x h = rw (h, kind_of) refl

-- ---- the conversion

-- a number of the place, which is an int, at scale 0
abbrev IntGiven : Limits → Value → Place → Ran Value → Type 0
IntGiven l v p x =
    (y : Number) × (c : ℕ) × PlaceRuns l (v ∷ []) 1 p (Value.number y) x.steps × (is_int y ≡ true)
    × (c * 10 ^ y.scale ≡ y.coefficient) × (x.result ≡ Value.number (record { negative = y.negative; coefficient = c; scale = 0 }))

pub int_given
    : (at : ℕ) (p : Place) (l : Limits) (v : Value) (x : Ran Value) → run_reader (Result.convert at to_int p) l v ≡ ok x
    → IntGiven l v p x
int_given at p l v x e = go refl ((runs_exactly (Result.convert at to_int p) l v x).0 e)
  where
    go : {w : Value} → x.result ≡ w → Runs l (v ∷ []) 0 (Result.convert at to_int p) w x.steps → IntGiven l v p x
    go f (runs_convert e d by_int s (without_fraction {x = y} {c} k)) = (y, c, d, is_an_int y s, k, f)

pub given_admitted
    : (at : ℕ) (p : Place) (l : Limits) (v : Value) (x : Ran Value) → run_reader (Result.convert at to_int p) l v ≡ ok x
    → admits (only_numeric int_only) x.result ≡ true
given_admitted at p l v x e =
    ap (λ (w : Value). admits (only_numeric int_only) w) (int_given at p l v x e).5 ∙ int_admits _ (unscaled_int _ refl)

-- it is one value, so that no limit is in the way
pub given_reads_back
    : (l : Limits) → InRange l → (text s : Bytes) (at : ℕ) (p : Place) (v : Value) (x : Ran Value)
    → read_reader l text ≡ ok (Result.convert at to_int p) → read_json l s ≡ ok v → run_reader (Result.convert at to_int p) l v ≡ ok x
    → read_json l (plain x.result) ≡ ok x.result
unfolding size nesting
given_reads_back l range text s at p v x t d e =
    let f = (int_given at p l v x e).5 in
    result_reads_back l range text s (Result.convert at to_int p) v x t d e
    (le_trans (subst (λ (w : Value). size w ≤ 16) (sym f) (lit≤ tt)) (bounds_of range).values.0)
    (le_trans (subst (λ (w : Value). nesting w ≤ 4) (sym f) (lit≤ tt)) (bounds_of range).nesting.0)
