-- `running::rows::keep` meets its contract. Assumes nothing.
use native.Mathlib.Omega.{arith}
use lib.ListN.{length-set}
use Rattle.running.proofs.Closing.{null_kept, copy_bounds, copy_left, copy_kept}
use Rattle.running.proofs.rows.keep.Goals as goal

pub put-requires : goal.put-requires
put-requires c =
    c.requires.few

pub returns-then-row_kind-eq-NULL : goal.returns-then-row_kind-eq-NULL
returns-then-row_kind-eq-NULL c =
    record {
      kept = null_kept c.args.nodes.now c.args.at c.args.results.now c.args.begun c.args.name
          c.row_kind.ensures.read c.if-row_kind-eq-NULL.true c.head_word.ensures.made c.put.ensures.put;
    }

pub overflow_add-to : goal.overflow_add-to
overflow_add-to c =
    let b = copy_bounds c.args.nodes.now c.args.at c.args.results.now c.args.begun c.args.name
    c.row_kind.ensures.read c.if-row_kind-eq-NULL.false c.row_size-size.ensures.sized c.requires in
    omega (arith, b.2, c.requires.few)

pub overflow_mul-begun : goal.overflow_mul-begun
overflow_mul-begun c =
    omega (arith, c.requires.few)

pub overflow_add-begun : goal.overflow_add-begun
overflow_add-begun c =
    let b = copy_bounds c.args.nodes.now c.args.at c.args.results.now c.args.begun c.args.name
    c.row_kind.ensures.read c.if-row_kind-eq-NULL.false c.row_size-size.ensures.sized c.requires in
    omega (arith, b.2, c.requires.few)

pub returns-then-results-begun : goal.returns-then-results-begun
returns-then-results-begun c =
    record {
      kept = copy_left c.args.nodes.now c.args.at c.args.results.now c.args.begun c.args.name
          c.row_kind.ensures.read c.if-row_kind-eq-NULL.false c.row_size-size.ensures.sized c.if-results-begun.true;
    }

pub copy_words-requires : goal.copy_words-requires
copy_words-requires c =
    let b = copy_bounds c.args.nodes.now c.args.at c.args.results.now c.args.begun c.args.name
    c.row_kind.ensures.read c.if-row_kind-eq-NULL.false c.row_size-size.ensures.sized c.requires in
    record { count_in_bounds = c.if-results-begun.false; within = b.0 }

pub bounds-results-begun : goal.bounds-results-begun
bounds-results-begun c =
    let b = copy_bounds c.args.nodes.now c.args.at c.args.results.now c.args.begun c.args.name
    c.row_kind.ensures.read c.if-row_kind-eq-NULL.false c.row_size-size.ensures.sized c.requires in
    omega (arith, b.1, c.if-results-begun.false, c.copy_words.auto.results)

pub offset_bounds-results-begun : goal.offset_bounds-results-begun
offset_bounds-results-begun c =
    let b = copy_bounds c.args.nodes.now c.args.at c.args.results.now c.args.begun c.args.name
    c.row_kind.ensures.read c.if-row_kind-eq-NULL.false c.row_size-size.ensures.sized c.requires in
    omega (arith, b.1, c.if-results-begun.false, c.well_formed)

pub shape_of-results : goal.shape_of-results
shape_of-results c = simp length-set c.copy_words.auto.results

pub returns : goal.returns
returns c =
    record {
      kept = copy_kept c.args.nodes.now c.args.at c.args.results.now c.args.begun c.args.name
          c.row_kind.ensures.read c.if-row_kind-eq-NULL.false c.row_size-size.ensures.sized c.if-results-begun.false
          c.copy_words.ensures.copied;
    }
