-- `join::put_element` meets its contract. Assumes nothing.
use native.Mathlib.Omega.{arith}
use Rattle.shapes.specs.ShapesLaws.{stands_row}
use Rattle.join.proofs.Parts.{head_room, element_before, put_element_room, put_element_full, put_element_grown}
use Rattle.join.proofs.put_element.Goals as goal

pub overflow_add-other : goal.overflow_add-other
overflow_add-other c =
    let s = c.args in
    let w = c.requires.beside in
    omega (arith, stands_row w.both.theirs, c.well_formed.1.1.1.0.0)

pub overflow_add-other-2 : goal.overflow_add-other-2
overflow_add-other-2 c =
    let s = c.args in
    let w = c.requires.beside in
    omega (arith, stands_row w.both.theirs, c.well_formed.1.1.1.0.0)

pub put_rows-requires : goal.put_rows-requires
put_rows-requires c =
    let s = c.args in
    let w = c.requires.beside in
    record {
      before = element_before w.ours w.both;
      used_within = w.both.used_within;
      within = put_element_room c.requires.lacks c.requires.there c.size-count.ensures.read w.ours w.theirs w.both;
    }

pub returns-in_err-words : goal.returns-in_err-words
returns-in_err-words c =
    record {
      put = rw c.from_residual.ensures (λ p m k a b v. let s = c.args in
          let w = c.requires.beside in
          put_element_full c.requires.lacks c.requires.there c.size-count.ensures.read a b v
          c.in_err-words.ensures.put);
    }

pub grow_head-requires : goal.grow_head-requires
grow_head-requires c =
    let s = c.args in
    let w = c.requires.beside in
    let q = c.in_ok-words.ensures.put in
    let facts = head_room s.row 32 q.replaced w.both.ours (omega arith) (element_before w.ours w.both) w.both.used_within w.small (omega arith) in
    record { row_in_bounds = facts.0; fits = facts.1 }

pub returns : goal.returns
returns c =
    record {
      put = λ p m k a b v. let s = c.args in
          let w = c.requires.beside in
          let q = c.in_ok-words.ensures.put in
          put_element_grown c.requires.lacks c.requires.there c.size-count.ensures.read a b v q c.grow_head.ensures.told
          c.grow_head.auto.shapes;
    }
