-- `json_reader::name::has_name` meets its contract. The loop's invariant is `Walking`: the name is none of those before.
-- Assumes nothing.
use Prim.Native.Nat.{ℕ, ◌+◌}
use mathlib.Core.Path.{sym, subst}
use native.Mathlib.Omega.{arith}
use Rattle.json_reader.proofs.Names.{Walking, walking, step_sizes, name_whole, found_Here, walked_on, not_found}
use Rattle.json_reader.proofs.name.has_name.Goals as goal

pub loop-row-init : goal.loop-row-init
loop-row-init c = walking c.args.nodes.now c.args.pool.now c.args.from c.args.to c.args.w c.args.n c.requires.0.ordered

pub overflow_add-name : goal.overflow_add-name
overflow_add-name c =
    let s = step_sizes _ _ _ _ _ _ _ c.requires.0.within c.requires.0 c.loop-row.invariant c.loop-row-test.true in
    omega (arith, c.requires.0.within)

pub offset_bounds-nodes-row : goal.offset_bounds-nodes-row
offset_bounds-nodes-row c =
    let s = step_sizes _ _ _ _ _ _ _ c.requires.0.within c.requires.0 c.loop-row.invariant c.loop-row-test.true in
    omega (arith, c.requires.0.within)

pub bounds-nodes-row : goal.bounds-nodes-row
bounds-nodes-row c =
    let s = step_sizes _ _ _ _ _ _ _ c.requires.0.within c.requires.0 c.loop-row.invariant c.loop-row-test.true in
    omega (arith, c.requires.0.within)

pub same_held-requires : goal.same_held-requires
same_held-requires c = (
  c.requires.1,
  rw (c.text_word.ensures.split, c.text_bytes.ensures.split)
      (name_whole _ _ _ _ _ _ _ c.requires.0.within c.requires.0 c.loop-row.invariant c.loop-row-test.true),
)

pub returns-then-same_held : goal.returns-then-same_held
returns-then-same_held c =
    record {
      found = found_Here _ _ _ _ _ _ _ c.requires.0.within c.loop-row.invariant c.loop-row-test.true
          (rw (c.text_word.ensures.split, c.text_bytes.ensures.split) at c.same_held.ensures.compared) c.if-same_held.true;
    }

pub row_size_in-row-requires : goal.row_size_in-row-requires
row_size_in-row-requires c =
    let s = step_sizes _ _ _ _ _ _ _ c.requires.0.within c.requires.0 c.loop-row.invariant c.loop-row-test.true in
    omega (arith, c.requires.0.within)

pub overflow_add-row : goal.overflow_add-row
overflow_add-row c =
    let s = step_sizes _ _ _ _ _ _ _ c.requires.0.within c.requires.0 c.loop-row.invariant c.loop-row-test.true in
    omega (arith, c.row_size_in-row.ensures.sized)

pub loop-row-smaller : goal.loop-row-smaller
loop-row-smaller c =
    let s = step_sizes _ _ _ _ _ _ _ c.requires.0.within c.requires.0 c.loop-row.invariant c.loop-row-test.true in
    omega (arith, c.row_size_in-row.ensures.sized)

pub loop-row-preserved : goal.loop-row-preserved
loop-row-preserved c =
    let a = c.args in
    subst (λ (k : ℕ). Walking a.nodes.now a.pool.now a.from a.to a.w a.n (c.loop-row.row + k)) (sym c.row_size_in-row.ensures.sized)
    (walked_on _ _ _ _ _ _ _ c.requires.0.within c.loop-row.invariant c.loop-row-test.true c.requires.0
    (rw (c.text_word.ensures.split, c.text_bytes.ensures.split) at c.same_held.ensures.compared) c.if-same_held.false)

pub returns : goal.returns
returns c = record { found = not_found _ _ _ _ _ _ _ c.requires.0.within c.loop-row.invariant c.loop-row-test.false }
