-- `result_shape::keeping::keep` meets its contract. Assumes nothing.
use native.Mathlib.Omega.{arith}
use Rattle.result_shape.proofs.KeepSteps.{keep_full_first, keep_asked, keep_tables, keep_full_then, keep_raise, keep_words, keep_answer}
use Rattle.result_shape.proofs.keeping.keep.Goals as goal

pub returns-in_err-words : goal.returns-in_err-words
returns-in_err-words c =
    record {
      kept = rw c.from_residual.ensures (keep_full_first c.requires.tables c.keep_members.new.res c.keep_members.result
          c.keep_members.ensures.kept c.in_err-words.was);
    }

pub overflow_add-used : goal.overflow_add-used
overflow_add-used c =
    let x = keep_tables c.requires.tables c.keep_members.new.res c.keep_members.result
    c.keep_members.ensures.kept c.in_ok-words.was c.requires.kept_asked in
    omega (arith, x.enough, x.small)

pub keep_element-requires : goal.keep_element-requires
keep_element-requires c =
    record {
      kept_asked = keep_asked c.requires.tables c.keep_members.new.res c.keep_members.result
          c.keep_members.ensures.kept c.in_ok-words.was c.requires.kept_asked;
      tables = keep_tables c.requires.tables c.keep_members.new.res c.keep_members.result
          c.keep_members.ensures.kept c.in_ok-words.was c.requires.kept_asked;
    }

pub returns-in_err-more : goal.returns-in_err-more
returns-in_err-more c =
    record {
      kept = rw c.from_residual-in_err-more.ensures (keep_full_then c.requires.tables c.keep_members.new.res c.keep_members.result
          c.keep_members.ensures.kept c.in_ok-words.was
          c.keep_element.new.res c.keep_element.result c.keep_element.ensures.kept
          c.in_err-more.was);
    }

pub raise-requires : goal.raise-requires
raise-requires c =
    let facts = keep_raise c.requires.tables c.keep_members.new.res c.keep_members.result
    c.keep_members.ensures.kept c.in_ok-words.was
    c.keep_element.new.res c.keep_element.result c.keep_element.ensures.kept
    c.in_ok-more.was c.requires.kept_asked in record { row_in_bounds = facts.0; fits = facts.1 }

pub overflow_add-result : goal.overflow_add-result
overflow_add-result c =
    let x =
    keep_words c.requires.tables c.keep_members.new.res c.keep_members.result
    c.keep_members.ensures.kept c.in_ok-words.was
    c.keep_element.new.res c.keep_element.result c.keep_element.ensures.kept
    c.in_ok-more.was c.requires.kept_asked in
    omega (arith, x)

pub returns : goal.returns
returns c =
    record {
      kept = keep_answer c.requires.tables c.keep_members.new.res c.keep_members.result
          c.keep_members.ensures.kept c.in_ok-words.was
          c.keep_element.new.res c.keep_element.result c.keep_element.ensures.kept
          c.in_ok-more.was c.raise.ensures.raised c.raise.auto.shapes;
    }
