-- `growing::lacked::null_member` meets its contract. Assumes nothing.
use Prim.Native.Nat.{ℕ, ◌+◌}
use mathlib.Core.Path.{◌≡◌, sym, subst, ◌∙◌}
use mathlib.Core.List.{List}
use lib.ListN.{get_or}
use Rattle.definitions.specs.Bytes.{Bytes}
use Rattle.definitions.specs.Shape.{Shape}
use Rattle.nodes.specs.Nodes.{Refers}
use Rattle.shapes.specs.ShapesLaws.{stands_name}
use Rattle.growing.specs.Rows.{MeetsListed}
use Rattle.growing.specs.NullLaws.{null_kept, null_put, null_fits}
use Rattle.growing.proofs.lacked.null_member.Goals as goal

-- its name stands where the row says
refers_there
    : {shapes pool p : List ℕ} {used row k name : ℕ} {n : Bytes} {s : Shape} → MeetsListed shapes pool used row p n k s
    → name ≡ get_or shapes (row + 1) 0 → Refers p n name
refers_there {p = p} {n = n} m e = subst (Refers p n) (sym (e ∙ stands_name m.stands)) m.refers

pub raise-requires : goal.raise-requires
raise-requires g c =
    let facts = null_fits c.requires.listed_held.meets c.requires.room in record { row_in_bounds = facts.0; fits = facts.1 }

pub returns-then-not-has : goal.returns-then-not-has
returns-then-not-has g c =
    record {
      nulled = λ p n k s there m tells. null_put m (c.has.ensures p n there m.pooled (refers_there m c.name.ensures.read) tells)
          c.if-not-has.true c.requires.room.enough c.raise.auto.shapes c.raise.ensures.raised;
    }

pub returns-else-not-has : goal.returns-else-not-has
returns-else-not-has g c =
    record {
      nulled = λ p n k s there m tells. null_kept m (c.has.ensures p n there m.pooled (refers_there m c.name.ensures.read) tells)
          c.if-not-has.false c.requires.room.enough;
    }
