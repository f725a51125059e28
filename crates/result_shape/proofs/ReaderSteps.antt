-- What a reader gives, in a table that holds nothing before. Assumes nothing.
use Prim.Native.Nat.{ℕ, ◌+◌, ◌%◌, ◌^◌, ◌≤◌, ◌<◌}
use native.Mathlib.Omega.{arith}
use mathlib.Core.Path.{◌≡◌, refl, sym, subst}
use mathlib.Core.List.{List, [], ◌∷◌, ◌++◌}
use lib.ListN.{length, get_or, take, drop, set}
use Rattle.definitions.specs.Shape.{Shape, nothing, has_list, has_rec, forms}
use Rattle.definitions.specs.Reader.{Result}
use Rattle.definitions.specs.Checking.{check_reader}
use Rattle.laws.specs.JoinLaws.{nothing_ascending, join_nothing_left}
use Rattle.shapes.specs.Shapes.{bit, numeric_bits, kind_bits, head_of, head_word, ShapeRows, shape_rows, no_element_rows, no_record_rows, Stands}
use Rattle.join.specs.Replacing.{Becomes}
use Rattle.std.specs.Prelude.{Option}
use Rattle.std.specs.Prelude.{Some, None}
use Rattle.growing.specs.GrowingForms.{forms_nothing, forms_some}
use Rattle.forms.specs.FormsLaws.{levels_some}
use Rattle.checking.specs.Bindings.{Bound, binding, Bindings}
use Rattle.checking.specs.BindingsLaws.{bound_row, binds, bindings_more}
use Rattle.result_shape.specs.Giving.{Tables, MeetsResult, ResultAsked, GivesResult, MeetsReader, ReaderAsked, HoldsGiven, GivesReader}
use Rattle.result_shape.proofs.Steps.{becomes_as, put_stands}

-- ---- a table too short for one row

pub reader_short
    : (table shapes pool bindings result : List ℕ) (deep : ℕ) → length result < 2
    → GivesReader table shapes pool bindings result deep (length result) None
reader_short table shapes pool bindings result deep h p m name r s t w = omega (arith, forms_some t)

-- ---- the document bound

pub reader_room : {table shapes pool bindings : List ℕ} {deep : ℕ} → ReaderAsked table shapes pool bindings deep → 0 < length bindings
reader_room w = omega (arith, w.meets.room, levels_some w.reader)

pub first_fits : (kinds x : ℕ) → kinds ≡ x % 128 → binding 0 kinds < 2 ^ 64
first_fits kinds x e = omega arith

none_bound : (shapes p bindings : List ℕ) (deep : ℕ) → Bindings shapes p bindings deep 0 []
none_bound shapes p bindings deep =
    record { many = refl; within = omega arith; holds = λ n l. absurd (let z : ⊥ = omega arith in z) }

-- ---- the row of nothing

nothing_rows : {p : List ℕ} → ShapeRows p 0 nothing (head_of 0 2 ∷ 0 ∷ [])
unfolding nothing head_word kind_bits bit numeric_bits has_list has_rec forms
nothing_rows = shape_rows no_element_rows no_record_rows

nothing_stands : {p : List ℕ} (result result₁ : List ℕ) → result₁ ≡ take 0 result ++ head_of 0 2 ∷ 0 ∷ drop (0 + 2) result → Stands result₁ p 0 0 nothing
nothing_stands result result₁ e =
    record { rows = head_of 0 2 ∷ 0 ∷ []; rest = drop (0 + 2) result; encoded = nothing_rows; placed = e }

module _
    (table shapes pool bindings bindings₁ result result₁ : List ℕ) (deep kinds : ℕ)
    (small : length result ≤ 65536)
    (few : length shapes ≤ 65536)
    (long : 2 ≤ length result)
    (kinds_are : kinds ≡ get_or shapes 0 0 % 128)
    (put : result₁ ≡ take 0 result ++ head_of 0 2 ∷ 0 ∷ drop (0 + 2) result)
    (same : length result₁ ≡ length result)
    (bound : bindings₁ ≡ set bindings 0 (binding 0 kinds))
    (same_bindings : length bindings₁ ≡ length bindings)
  where
    pub reader_tables : Tables shapes result₁ 2
    reader_tables = record { enough = omega arith; small = omega arith; few = few }

    module _
        {p : List ℕ} {m name : ℕ} {r : Result} {s t : Shape} (j : MeetsReader table shapes pool bindings p deep m name r s t)
      where
        there : 0 < length bindings
        there = omega (arith, j.room, levels_some r)

        few_kinds : kinds < 128
        few_kinds = omega arith

        bound_first : Bindings shapes p bindings₁ deep 1 (s ∷ [])
        bound_first =
            bindings_more (none_bound shapes p bindings deep) there
            (binds bindings bindings₁ 0 0 kinds bound there few_kinds
            (subst (λ (k : ℕ). Bound shapes p deep 0 k s) (sym kinds_are) (bound_row j.stands j.ascends j.nests)))

        reader_meets : MeetsResult table shapes pool bindings₁ result₁ p 0 1 2 0 m deep r (s ∷ []) t 0 nothing
        unfolding check_reader
        reader_meets =
            record {
              form = record { pooled = j.pooled; stands = j.form; bound = bound_first; room = omega (arith, j.room) };
              gives = j.gives;
              once = j.once;
              stands = nothing_stands result result₁ put;
              within = omega (arith, forms_nothing);
              ascends = nothing_ascending;
            }

    pub reader_asked : ReaderAsked table shapes pool bindings deep → ResultAsked table shapes pool bindings₁ result₁ 0 1 2 0 deep
    reader_asked w =
        record {
          p = w.p;
          m = w.m;
          form = w.reader;
          env = w.shape ∷ [];
          given = w.given;
          name = 0;
          old = nothing;
          meets = reader_meets w.meets;
        }

    holds
        : {p : List ℕ} {m name : ℕ} {r : Result} {s t : Shape} (result₂ : List ℕ) (o : Option ℕ) → MeetsReader table shapes pool bindings p deep m name r s t
        → Becomes result₁ result₂ p 2 0 0 nothing t o → HoldsGiven result₂ pool (length result) t o
    holds {p} result₂ (Some words) j q =
        record {
          used = p;
          name = 0;
          stands = put_stands (nothing_stands result result₁ put) (omega (arith, forms_nothing)) reader_tables q;
          front = j.pooled.front;
          small = j.pooled.small;
        }
    holds result₂ None j q = omega (arith, q.over, forms_nothing)

    pub reader_answer
        : (result₂ : List ℕ) (o : Option ℕ) → GivesResult table shapes pool bindings₁ result₁ result₂ 0 1 2 0 deep o
        → GivesReader table shapes pool bindings result₂ deep (length result) o
    reader_answer result₂ o q p m name r s t j =
        holds result₂ o j
        (becomes_as result₁ result₂ p 2 0 0 nothing o (join_nothing_left t) (q p m r (s ∷ []) t 0 nothing (reader_meets j)))
