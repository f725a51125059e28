-- The proof of the cycle of calls that joins what a result gives into a shape. Each call goes on at a later row of the forms table or, from
-- parts to their first form, at the same one: the measures are four times what is left of that table, and less than four more. The
-- loop's invariant is `PairsLoop`. Assumes nothing.
use Prim.Native.Nat.{ℕ, ◌+◌, ◌<◌}
use native.Mathlib.Omega.{arith}
use native.Mathlib.Numerals.{add-one}
use mathlib.Core.Path.{refl, sym, ap, subst, ◌∙◌}
use Rattle.shapes.specs.ShapesLaws.{kind_bits_lt, stands_row}
use Rattle.shapes.specs.ShapesLaws.{stands_size as Shape-size}
use Rattle.growing.specs.Growing.{member_start}
use Rattle.growing.specs.RecordLaws.{record_first}
use Rattle.forms.specs.FormsLaws.{stands_size, stands_within}
use Rattle.result_shape.proofs.Steps.{tables_room}
use Rattle.result_shape.proofs.Places.{asked_within}
use Rattle.result_shape.proofs.Branches.{kept_then, one_part, two_parts}
use Rattle.result_shape.proofs.BareSteps.{bare_fits, bare_answer}
use Rattle.result_shape.proofs.ChooseSteps.{choose_rows, choose_asked, choose_full_first, choose_tables, choose_asked_then, choose_full_then}
use Rattle.result_shape.proofs.ChooseSteps.{choose_answer, choose_words}
use Rattle.result_shape.proofs.WhenSteps.{when_asks, when_rows, when_room, when_never, cut_fits, when_asked, when_full_first, when_kept_then}
use Rattle.result_shape.proofs.WhenSteps.{when_tables, out_fits, when_asked_then, when_kept, when_full_then, when_answer, when_words}
use Rattle.result_shape.proofs.EachSteps.{each_asks, each_rows, each_room, each_held, each_never, each_bound, each_kept_first, each_full_first}
use Rattle.result_shape.proofs.EachSteps.{each_asked, each_tables, each_kept, each_full_then, each_raise, each_words, each_answer}
use Rattle.result_shape.proofs.PairSteps.{pair_held, listed_asked, listed_answer, new_inside, new_full_first, new_asked, new_tables, new_full_then}
use Rattle.result_shape.proofs.PairSteps.{new_answer, new_words}
use Rattle.result_shape.proofs.PairsLoop.{pairs_begin, pairs_size, pairs_last, pairs_tables, pairs_asked, pairs_kept, pairs_full}
use Rattle.result_shape.proofs.PairsLoop.{pairs_loop_on, pairs_grown, pairs_end}
use Rattle.result_shape.proofs.PackSteps.{pack_asked, pack_full, pack_nulls, pack_room, pack_grown, pack_raise, pack_answer}
use Rattle.result_shape.proofs.+result_choose_result_each_result_into_result_pack_result_pair_result_pairs_result_when.Goals as goal

pub result_choose-overflow_add-first : goal.result_choose-overflow_add-first
result_choose-overflow_add-first t c =
    omega (arith, asked_within c.requires.result_asked)

pub result_choose-overflow_add-row : goal.result_choose-overflow_add-row
result_choose-overflow_add-row t c =
    omega (arith, asked_within c.requires.result_asked)

pub result_choose-overflow_add-first-2 : goal.result_choose-overflow_add-first-2
result_choose-overflow_add-first-2 t c =
    let x = choose_rows c.requires.tables c.requires.code refl refl c.requires.result_asked in
    omega (arith, x.1, x.2, c.size.ensures.read)

pub result_choose-overflow_add-second : goal.result_choose-overflow_add-second
result_choose-overflow_add-second t c =
    let x = choose_rows c.requires.tables c.requires.code
    (one_part c.args.reader.now.forms.now c.args.row c.size.ensures.read)
    (two_parts c.args.reader.now.forms.now c.args.row c.size.ensures.read c.size-2.ensures.read) c.requires.result_asked in
    omega (arith, x.2)

pub result_choose-result_into-requires : goal.result_choose-result_into-requires
result_choose-result_into-requires t c =
    let x = choose_rows c.requires.tables c.requires.code
    (one_part c.args.reader.now.forms.now c.args.row c.size.ensures.read)
    (two_parts c.args.reader.now.forms.now c.args.row c.size.ensures.read c.size-2.ensures.read) c.requires.result_asked in (
      omega (arith, c.decreases, x.0, x.1, x.2),
      (
        choose_asked c.requires.tables c.requires.code
            (one_part c.args.reader.now.forms.now c.args.row c.size.ensures.read)
            (two_parts c.args.reader.now.forms.now c.args.row c.size.ensures.read c.size-2.ensures.read) c.requires.result_asked,
        c.requires.tables,
      ),
    )

pub result_choose-returns-in_err-words : goal.result_choose-returns-in_err-words
result_choose-returns-in_err-words t c =
    record {
      given = rw c.from_residual.ensures (choose_full_first c.requires.tables c.requires.code
          (one_part c.args.reader.now.forms.now c.args.row c.size.ensures.read)
          (two_parts c.args.reader.now.forms.now c.args.row c.size.ensures.read c.size-2.ensures.read)
          c.result_into.new.env c.result_into.new.into
          c.result_into.result c.result_into.ensures.given c.result_into.ensures.kept
          c.in_err-words.was);
      kept = c.result_into.ensures.kept;
    }

pub result_choose-overflow_add-used : goal.result_choose-overflow_add-used
result_choose-overflow_add-used t c =
    let x = choose_tables c.requires.tables c.requires.code
    (one_part c.args.reader.now.forms.now c.args.row c.size.ensures.read)
    (two_parts c.args.reader.now.forms.now c.args.row c.size.ensures.read c.size-2.ensures.read)
    c.result_into.new.env c.result_into.new.into
    c.result_into.result c.result_into.ensures.given c.result_into.ensures.kept
    c.in_ok-words.was c.requires.result_asked in
    omega (arith, x.enough, x.small)

pub result_choose-result_into-requires-2 : goal.result_choose-result_into-requires-2
result_choose-result_into-requires-2 t c =
    let x = choose_rows c.requires.tables c.requires.code
    (one_part c.args.reader.now.forms.now c.args.row c.size.ensures.read)
    (two_parts c.args.reader.now.forms.now c.args.row c.size.ensures.read c.size-2.ensures.read) c.requires.result_asked in (
      omega (arith, c.decreases, x.0, x.1, x.2),
      (
        choose_asked_then c.requires.tables c.requires.code
            (one_part c.args.reader.now.forms.now c.args.row c.size.ensures.read)
            (two_parts c.args.reader.now.forms.now c.args.row c.size.ensures.read c.size-2.ensures.read)
            c.result_into.new.env c.result_into.new.into
            c.result_into.result c.result_into.ensures.given c.result_into.ensures.kept
            c.in_ok-words.was c.requires.result_asked,
        choose_tables c.requires.tables c.requires.code
            (one_part c.args.reader.now.forms.now c.args.row c.size.ensures.read)
            (two_parts c.args.reader.now.forms.now c.args.row c.size.ensures.read c.size-2.ensures.read)
            c.result_into.new.env c.result_into.new.into
            c.result_into.result c.result_into.ensures.given c.result_into.ensures.kept
            c.in_ok-words.was c.requires.result_asked,
      ),
    )

pub result_choose-returns-in_err-more : goal.result_choose-returns-in_err-more
result_choose-returns-in_err-more t c =
    record {
      given = rw c.from_residual-in_err-more.ensures (choose_full_then c.requires.tables c.requires.code
          (one_part c.args.reader.now.forms.now c.args.row c.size.ensures.read)
          (two_parts c.args.reader.now.forms.now c.args.row c.size.ensures.read c.size-2.ensures.read)
          c.result_into.new.env c.result_into.new.into
          c.result_into.result c.result_into.ensures.given c.result_into.ensures.kept
          c.in_ok-words.was c.result_into-2.new.into c.result_into-2.result
          c.result_into-2.ensures.given c.in_err-more.was);
      kept = kept_then _ _ _ _ _ (omega arith) c.result_into.ensures.kept c.result_into-2.ensures.kept;
    }

pub result_choose-overflow_add-result : goal.result_choose-overflow_add-result
result_choose-overflow_add-result t c =
    let x = choose_words c.requires.tables c.requires.code
    (one_part c.args.reader.now.forms.now c.args.row c.size.ensures.read)
    (two_parts c.args.reader.now.forms.now c.args.row c.size.ensures.read c.size-2.ensures.read)
    c.result_into.new.env c.result_into.new.into
    c.result_into.result c.result_into.ensures.given c.result_into.ensures.kept
    c.in_ok-words.was c.result_into-2.new.into c.result_into-2.result
    c.result_into-2.ensures.given c.in_ok-more.was c.requires.result_asked in
    omega (arith, x)

pub result_choose-returns : goal.result_choose-returns
result_choose-returns t c =
    record {
      given = choose_answer c.requires.tables c.requires.code (one_part c.args.reader.now.forms.now c.args.row c.size.ensures.read)
          (two_parts c.args.reader.now.forms.now c.args.row c.size.ensures.read c.size-2.ensures.read)
          c.result_into.new.env c.result_into.new.into
          c.result_into.result c.result_into.ensures.given c.result_into.ensures.kept
          c.in_ok-words.was c.result_into-2.new.into c.result_into-2.result
          c.result_into-2.ensures.given c.in_ok-more.was;
      kept = kept_then _ _ _ _ _ (omega arith) c.result_into.ensures.kept c.result_into-2.ensures.kept;
    }

pub result_each-overflow_add-row : goal.result_each-overflow_add-row
result_each-overflow_add-row t c =
    omega (arith, asked_within c.requires.result_asked)

pub result_each-locate-requires : goal.result_each-locate-requires
result_each-locate-requires t c =
    each_asks c.requires.tables c.requires.code refl (add-one c.args.bound) c.requires.result_asked

pub result_each-unreachable-requires : goal.result_each-unreachable-requires
result_each-unreachable-requires t c =
    each_never c.requires.tables c.requires.code refl (add-one c.args.bound) c.locate.result
    c.locate.ensures.found c.requires.result_asked.meets c.in_default.is

pub result_each-bind_element-requires : goal.result_each-bind_element-requires
result_each-bind_element-requires t c =
    record {
      slot_in_bounds = each_room c.requires.tables c.requires.code refl (add-one c.args.bound) c.requires.result_asked;
      there = each_bound c.requires.tables c.requires.code refl (add-one c.args.bound) c.locate.result
          c.locate.ensures.found c.in-Ok.is c.requires.result_asked;
      small = omega (arith, c.requires.tables.few);
    }

pub result_each-ready_element-requires : goal.result_each-ready_element-requires
result_each-ready_element-requires t c =
    record {
      shape_held = each_held c.requires.tables c.requires.code refl (add-one c.args.bound) c.requires.result_asked;
      room = tables_room c.requires.tables;
    }

pub result_each-returns-in_err-opened : goal.result_each-returns-in_err-opened
result_each-returns-in_err-opened t c =
    record {
      given = rw c.from_residual.ensures (each_full_first c.requires.tables c.requires.code refl (add-one c.args.bound) c.locate.result
          c.locate.ensures.found c.in-Ok.is c.bind_element.new.bindings c.bind_element.ensures.element
          c.ready_element.new.shapes c.ready_element.result c.ready_element.ensures.ready
          c.in_err-opened.was);
      kept = each_kept_first c.requires.tables c.requires.code refl (add-one c.args.bound) c.locate.result
          c.locate.ensures.found c.in-Ok.is c.bind_element.new.bindings
          c.bind_element.ensures.element c.requires.result_asked;
    }

pub result_each-overflow_add-part : goal.result_each-overflow_add-part
result_each-overflow_add-part t c =
    omega (arith, asked_within c.requires.result_asked)

pub result_each-overflow_add-row-2 : goal.result_each-overflow_add-row-2
result_each-overflow_add-row-2 t c =
    omega (arith, asked_within c.requires.result_asked)

pub result_each-overflow_add-part-2 : goal.result_each-overflow_add-part-2
result_each-overflow_add-part-2 t c =
    let x = each_rows c.requires.tables c.requires.code (one_part c.args.reader.now.forms.now c.args.row c.size.ensures.read)
    (add-one c.args.bound) c.requires.result_asked in
    omega (arith, x.1)

pub result_each-overflow_add-bound : goal.result_each-overflow_add-bound
result_each-overflow_add-bound t c =
    let x = each_room c.requires.tables c.requires.code (one_part c.args.reader.now.forms.now c.args.row c.size.ensures.read)
    (add-one c.args.bound) c.requires.result_asked in
    omega (arith, x)

pub result_each-overflow_add-used : goal.result_each-overflow_add-used
result_each-overflow_add-used t c =
    let x = each_tables c.requires.tables c.requires.code
    (one_part c.args.reader.now.forms.now c.args.row c.size.ensures.read) (add-one c.args.bound)
    c.locate.result c.locate.ensures.found c.in-Ok.is
    c.bind_element.new.bindings c.bind_element.ensures.element c.ready_element.new.shapes
    c.ready_element.result c.ready_element.ensures.ready c.in_ok-opened.was c.requires.result_asked in
    omega (arith, x.enough, x.small)

pub result_each-overflow_add-dest : goal.result_each-overflow_add-dest
result_each-overflow_add-dest t c =
    let x = each_held c.requires.tables c.requires.code
    (one_part c.args.reader.now.forms.now c.args.row c.size.ensures.read) (add-one c.args.bound)
    c.requires.result_asked in
    omega (arith, stands_row x.stands, c.requires.tables.small)

pub result_each-result_into-requires : goal.result_each-result_into-requires
result_each-result_into-requires t c =
    let x = each_rows c.requires.tables c.requires.code
    (one_part c.args.reader.now.forms.now c.args.row c.size.ensures.read) (add-one c.args.bound) c.requires.result_asked in (
      omega (arith, c.decreases, x.0, x.1),
      (
        each_asked c.requires.tables c.requires.code (one_part c.args.reader.now.forms.now c.args.row c.size.ensures.read)
            (add-one c.args.bound) c.locate.result c.locate.ensures.found c.in-Ok.is
            c.bind_element.new.bindings c.bind_element.ensures.element c.ready_element.new.shapes
            c.ready_element.result c.ready_element.ensures.ready c.in_ok-opened.was c.requires.result_asked,
        each_tables c.requires.tables c.requires.code (one_part c.args.reader.now.forms.now c.args.row c.size.ensures.read)
            (add-one c.args.bound) c.locate.result c.locate.ensures.found c.in-Ok.is
            c.bind_element.new.bindings c.bind_element.ensures.element c.ready_element.new.shapes
            c.ready_element.result c.ready_element.ensures.ready c.in_ok-opened.was c.requires.result_asked,
      ),
    )

pub result_each-returns-in_err-words : goal.result_each-returns-in_err-words
result_each-returns-in_err-words t c =
    record {
      given = rw c.from_residual-in_err-words.ensures (each_full_then c.requires.tables c.requires.code
          (one_part c.args.reader.now.forms.now c.args.row c.size.ensures.read)
          (add-one c.args.bound) c.locate.result c.locate.ensures.found c.in-Ok.is
          c.bind_element.new.bindings c.bind_element.ensures.element c.ready_element.new.shapes
          c.ready_element.result c.ready_element.ensures.ready c.in_ok-opened.was
          c.result_into.new.env c.result_into.new.into
          c.result_into.result c.result_into.ensures.given c.result_into.ensures.kept
          c.in_err-words.was);
      kept = each_kept c.requires.tables c.requires.code
          (one_part c.args.reader.now.forms.now c.args.row c.size.ensures.read) (add-one c.args.bound)
          c.locate.result c.locate.ensures.found c.in-Ok.is c.bind_element.new.bindings
          c.bind_element.ensures.element c.ready_element.new.shapes c.ready_element.result
          c.ready_element.ensures.ready c.in_ok-opened.was c.result_into.new.env
          c.result_into.new.into c.result_into.result
          c.result_into.ensures.given c.result_into.ensures.kept c.requires.result_asked;
    }

pub result_each-overflow_add-opened : goal.result_each-overflow_add-opened
result_each-overflow_add-opened t c =
    let x = each_words c.requires.tables c.requires.code
    (one_part c.args.reader.now.forms.now c.args.row c.size.ensures.read)
    (add-one c.args.bound) c.locate.result c.locate.ensures.found
    c.in-Ok.is c.bind_element.new.bindings c.bind_element.ensures.element
    c.ready_element.new.shapes c.ready_element.result c.ready_element.ensures.ready
    c.in_ok-opened.was c.result_into.new.env c.result_into.new.into
    c.result_into.result c.result_into.ensures.given c.result_into.ensures.kept
    c.in_ok-words.was c.requires.result_asked in
    omega (arith, x)

pub result_each-raise-requires : goal.result_each-raise-requires
result_each-raise-requires t c =
    let facts = each_raise c.requires.tables c.requires.code
    (one_part c.args.reader.now.forms.now c.args.row c.size.ensures.read)
    (add-one c.args.bound) c.locate.result c.locate.ensures.found
    c.in-Ok.is c.bind_element.new.bindings c.bind_element.ensures.element
    c.ready_element.new.shapes c.ready_element.result c.ready_element.ensures.ready
    c.in_ok-opened.was c.result_into.new.env c.result_into.new.into
    c.result_into.result c.result_into.ensures.given c.result_into.ensures.kept
    c.in_ok-words.was c.requires.result_asked in record { row_in_bounds = facts.0; fits = facts.1 }

pub result_each-overflow_add-result : goal.result_each-overflow_add-result
result_each-overflow_add-result t c =
    let x = each_words c.requires.tables c.requires.code
    (one_part c.args.reader.now.forms.now c.args.row c.size.ensures.read)
    (add-one c.args.bound) c.locate.result c.locate.ensures.found
    c.in-Ok.is c.bind_element.new.bindings c.bind_element.ensures.element
    c.ready_element.new.shapes c.ready_element.result c.ready_element.ensures.ready
    c.in_ok-opened.was c.result_into.new.env c.result_into.new.into
    c.result_into.result c.result_into.ensures.given c.result_into.ensures.kept
    c.in_ok-words.was c.requires.result_asked in
    omega (arith, x)

pub result_each-returns : goal.result_each-returns
result_each-returns t c =
    record {
      given = each_answer c.requires.tables c.requires.code (one_part c.args.reader.now.forms.now c.args.row c.size.ensures.read)
          (add-one c.args.bound) c.locate.result c.locate.ensures.found c.in-Ok.is
          c.bind_element.new.bindings c.bind_element.ensures.element c.ready_element.new.shapes
          c.ready_element.result c.ready_element.ensures.ready c.in_ok-opened.was
          c.result_into.new.env c.result_into.new.into
          c.result_into.result c.result_into.ensures.given c.result_into.ensures.kept
          c.in_ok-words.was c.raise.ensures.raised c.raise.auto.shapes;
      kept = each_kept c.requires.tables c.requires.code
          (one_part c.args.reader.now.forms.now c.args.row c.size.ensures.read) (add-one c.args.bound)
          c.locate.result c.locate.ensures.found c.in-Ok.is c.bind_element.new.bindings
          c.bind_element.ensures.element c.ready_element.new.shapes c.ready_element.result
          c.ready_element.ensures.ready c.in_ok-opened.was c.result_into.new.env
          c.result_into.new.into c.result_into.result
          c.result_into.ensures.given c.result_into.ensures.kept c.requires.result_asked;
    }

pub result_into-result_keep-requires : goal.result_into-result_keep-requires
result_into-result_keep-requires t c =
    record { result_asked = c.requires.result_asked; tables = c.requires.tables; code = sym c.code.ensures.read ∙ c.in-7.is }

pub result_into-returns-in-7 : goal.result_into-returns-in-7
result_into-returns-in-7 t c =
    record { given = c.result_keep.ensures.given; kept = record { front = refl; same = refl } }

pub result_into-result_each-requires : goal.result_into-result_each-requires
result_into-result_each-requires t c =
    (omega (arith, c.decreases), (c.requires.result_asked, (c.requires.tables, sym c.code.ensures.read ∙ c.in-9.is)))

pub result_into-returns-in-9 : goal.result_into-returns-in-9
result_into-returns-in-9 t c =
    record { given = c.result_each.ensures.given; kept = c.result_each.ensures.kept }

pub result_into-result_when-requires : goal.result_into-result_when-requires
result_into-result_when-requires t c =
    (omega (arith, c.decreases), (c.requires.result_asked, (c.requires.tables, sym c.code.ensures.read ∙ c.in-10.is)))

pub result_into-returns-in-10 : goal.result_into-returns-in-10
result_into-returns-in-10 t c =
    record { given = c.result_when.ensures.given; kept = c.result_when.ensures.kept }

pub result_into-result_choose-requires : goal.result_into-result_choose-requires
result_into-result_choose-requires t c =
    (omega (arith, c.decreases), (c.requires.result_asked, (c.requires.tables, sym c.code.ensures.read ∙ c.in-11.is)))

pub result_into-returns-in-11 : goal.result_into-returns-in-11
result_into-returns-in-11 t c =
    record { given = c.result_choose.ensures.given; kept = c.result_choose.ensures.kept }

pub result_into-result_pack-requires : goal.result_into-result_pack-requires
result_into-result_pack-requires t c =
    (omega (arith, c.decreases), (c.requires.result_asked, (c.requires.tables, sym c.code.ensures.read ∙ c.in-17.is)))

pub result_into-returns-in-17 : goal.result_into-returns-in-17
result_into-returns-in-17 t c =
    record { given = c.result_pack.ensures.given; kept = c.result_pack.ensures.kept }

pub result_into-raise-requires : goal.result_into-raise-requires
result_into-raise-requires t c =
    let facts = bare_fits c.requires.tables c.code.ensures.read c.operand-operand.ensures.read c.payload.ensures.read
    (λ e. omega (arith, e, c.in_default)) (λ e. omega (arith, e, c.in_default)) (λ e. omega (arith, e, c.in_default))
    (λ e. omega (arith, e, c.in_default)) (λ e. omega (arith, e, c.in_default))
    c.bare_kinds-kinds.ensures.told c.requires.result_asked in record { row_in_bounds = facts.0; fits = facts.1 }

pub result_into-returns-in_default : goal.result_into-returns-in_default
result_into-returns-in_default t c =
    record {
      given = bare_answer c.requires.tables c.code.ensures.read c.operand-operand.ensures.read c.payload.ensures.read
          (λ e. omega (arith, e, c.in_default)) (λ e. omega (arith, e, c.in_default)) (λ e. omega (arith, e, c.in_default))
          (λ e. omega (arith, e, c.in_default)) (λ e. omega (arith, e, c.in_default))
          c.bare_kinds-kinds.ensures.told c.raise.ensures.raised c.raise.auto.shapes;
      kept = record { front = refl; same = refl };
    }

pub result_pack-overflow_add-end : goal.result_pack-overflow_add-end
result_pack-overflow_add-end t c =
    omega (
      arith,
      c.size.ensures.read,
      stands_size c.requires.result_asked.meets.form.stands,
      stands_within c.requires.result_asked.meets.form.stands,
    )

pub result_pack-members-first-requires : goal.result_pack-members-first-requires
result_pack-members-first-requires t c =
    let facts = record_first c.requires.result_asked.meets.stands c.requires.result_asked.meets.within (tables_room c.requires.tables) in
    record { row_in_bounds = facts.0; within = facts.1 }

pub result_pack-overflow_add-last : goal.result_pack-overflow_add-last
result_pack-overflow_add-last t c =
    omega (
      arith,
      c.size-2.ensures.read,
      Shape-size c.requires.result_asked.meets.stands,
      c.requires.result_asked.meets.within,
      c.requires.tables.enough,
      c.requires.tables.small,
    )

pub result_pack-overflow_add-row : goal.result_pack-overflow_add-row
result_pack-overflow_add-row t c =
    omega (arith, asked_within c.requires.result_asked)

pub result_pack-result_pairs-requires : goal.result_pack-result_pairs-requires
result_pack-result_pairs-requires t c = (
  omega (arith, c.decreases, asked_within c.requires.result_asked),
  (
    pack_asked c.requires.tables c.requires.code c.kinds.ensures.read
        c.has-had.ensures.told c.members-first.ensures.found
        (ap (λ (x : ℕ). c.args.dest + x) c.size-2.ensures.read)
        (ap (λ (x : ℕ). c.args.row + x) c.size.ensures.read) c.requires.result_asked,
    c.requires.tables,
  ),
)

pub result_pack-returns-in_err-words : goal.result_pack-returns-in_err-words
result_pack-returns-in_err-words t c =
    record {
      given = rw c.from_residual.ensures (pack_full c.requires.tables c.requires.code c.kinds.ensures.read
          c.has-had.ensures.told c.members-first.ensures.found
          (ap (λ (x : ℕ). c.args.dest + x) c.size-2.ensures.read)
          (ap (λ (x : ℕ). c.args.row + x) c.size.ensures.read) c.result_pairs.new.into
          c.result_pairs.result c.result_pairs.ensures.given c.in_err-words.was);
      kept = c.result_pairs.ensures.kept;
    }

pub result_pack-overflow_add-used : goal.result_pack-overflow_add-used
result_pack-overflow_add-used t c =
    let x = pack_grown c.requires.tables c.requires.code c.kinds.ensures.read
    c.has-had.ensures.told c.members-first.ensures.found
    (ap (λ (x : ℕ). c.args.dest + x) c.size-2.ensures.read)
    (ap (λ (x : ℕ). c.args.row + x) c.size.ensures.read) c.result_pairs.new.into
    c.result_pairs.result c.result_pairs.ensures.given c.in_ok-words.was c.requires.result_asked in
    omega (arith, x.0)

pub result_pack-overflow_add-last-2 : goal.result_pack-overflow_add-last-2
result_pack-overflow_add-last-2 t c =
    let x = pack_grown c.requires.tables c.requires.code c.kinds.ensures.read
    c.has-had.ensures.told c.members-first.ensures.found
    (ap (λ (x : ℕ). c.args.dest + x) c.size-2.ensures.read)
    (ap (λ (x : ℕ). c.args.row + x) c.size.ensures.read) c.result_pairs.new.into
    c.result_pairs.result c.result_pairs.ensures.given c.in_ok-words.was c.requires.result_asked in
    omega (arith, x.0, x.1)

pub result_pack-overflow_add-row-2 : goal.result_pack-overflow_add-row-2
result_pack-overflow_add-row-2 t c =
    omega (arith, asked_within c.requires.result_asked)

pub result_pack-null_others-requires : goal.result_pack-null_others-requires
result_pack-null_others-requires t c =
    record {
      nullable = pack_nulls c.requires.tables c.requires.code c.kinds.ensures.read c.has-had.ensures.told
          c.members-first.ensures.found (ap (λ (x : ℕ). c.args.dest + x) c.size-2.ensures.read)
          (ap (λ (x : ℕ). c.args.row + x) c.size.ensures.read) c.result_pairs.new.into
          c.result_pairs.result c.result_pairs.ensures.given c.in_ok-words.was c.requires.result_asked;
      room = pack_room c.requires.tables c.requires.code c.kinds.ensures.read c.has-had.ensures.told
          c.members-first.ensures.found (ap (λ (x : ℕ). c.args.dest + x) c.size-2.ensures.read)
          (ap (λ (x : ℕ). c.args.row + x) c.size.ensures.read) c.result_pairs.new.into
          c.result_pairs.result c.result_pairs.ensures.given c.in_ok-words.was c.requires.result_asked;
    }

pub result_pack-raise-requires : goal.result_pack-raise-requires
result_pack-raise-requires t c =
    let facts = pack_raise c.requires.tables c.requires.code c.kinds.ensures.read
    c.has-had.ensures.told c.members-first.ensures.found
    (ap (λ (x : ℕ). c.args.dest + x) c.size-2.ensures.read)
    (ap (λ (x : ℕ). c.args.row + x) c.size.ensures.read) c.result_pairs.new.into
    c.result_pairs.result c.result_pairs.ensures.given c.in_ok-words.was
    c.null_others.new.res c.null_others.ensures.nulled c.requires.result_asked in record { row_in_bounds = facts.0; fits = facts.1 }

pub result_pack-returns : goal.result_pack-returns
result_pack-returns t c =
    record {
      given = pack_answer c.requires.tables c.requires.code c.kinds.ensures.read
          c.has-had.ensures.told c.members-first.ensures.found
          (ap (λ (x : ℕ). c.args.dest + x) c.size-2.ensures.read)
          (ap (λ (x : ℕ). c.args.row + x) c.size.ensures.read) c.result_pairs.new.into
          c.result_pairs.result c.result_pairs.ensures.given c.in_ok-words.was
          c.null_others.new.res c.null_others.ensures.nulled c.raise.ensures.raised c.raise.auto.shapes;
      kept = c.result_pairs.ensures.kept;
    }

pub result_pair-find_place-requires : goal.result_pair-find_place-requires
result_pair-find_place-requires t c =
    record { fields_held = pair_held c.requires.pair_asked; room = tables_room c.requires.tables }

pub result_pair-result_into-requires : goal.result_pair-result_into-requires
result_pair-result_into-requires t c = (
  omega (arith, c.decreases),
  (
    listed_asked c.args.had c.requires.tables c.name-name.ensures.read c.in-Ok.ensures.found c.requires.pair_asked,
    c.requires.tables,
  ),
)

pub result_pair-returns-in-Ok : goal.result_pair-returns-in-Ok
result_pair-returns-in-Ok t c =
    record {
      given = listed_answer c.args.had c.requires.tables c.name-name.ensures.read c.in-Ok.ensures.found c.result_into.new.into
          c.result_into.result c.result_into.ensures.given;
      kept = c.result_into.ensures.kept;
    }

pub result_pair-open_row-requires : goal.result_pair-open_row-requires
result_pair-open_row-requires t c =
    record {
      room = tables_room c.requires.tables;
      inside = new_inside c.args.had c.requires.tables c.name-name.ensures.read c.in-Err.ensures.found c.requires.pair_asked;
      small = subst (λ (x : ℕ). x < 128) (sym c.start_kinds.ensures.told) (kind_bits_lt (member_start c.args.had));
    }

pub result_pair-returns-in_err-opened-in-Err : goal.result_pair-returns-in_err-opened-in-Err
result_pair-returns-in_err-opened-in-Err t c =
    record {
      given = rw c.from_residual.ensures (new_full_first c.args.had c.requires.tables c.name-name.ensures.read c.in-Err.ensures.found
          c.open_row.new.shapes c.open_row.result
          c.start_kinds.ensures.told c.open_row.ensures.opened c.in_err-opened-in-Err.was);
      kept = record { front = refl; same = refl };
    }

pub result_pair-overflow_add-used : goal.result_pair-overflow_add-used
result_pair-overflow_add-used t c =
    let x = new_tables c.args.had c.requires.tables c.name-name.ensures.read c.in-Err.ensures.found
    c.open_row.new.shapes c.open_row.result
    c.start_kinds.ensures.told c.open_row.ensures.opened c.in_ok-opened-in-Err.was c.requires.pair_asked in
    omega (arith, x.enough, x.small)

pub result_pair-result_into-requires-in-Err : goal.result_pair-result_into-requires-in-Err
result_pair-result_into-requires-in-Err t c = (
  omega (arith, c.decreases),
  (
    new_asked c.args.had c.requires.tables c.name-name.ensures.read c.in-Err.ensures.found
        c.open_row.new.shapes c.open_row.result c.start_kinds.ensures.told
        c.open_row.ensures.opened c.in_ok-opened-in-Err.was c.requires.pair_asked,
    new_tables c.args.had c.requires.tables c.name-name.ensures.read c.in-Err.ensures.found
        c.open_row.new.shapes c.open_row.result c.start_kinds.ensures.told
        c.open_row.ensures.opened c.in_ok-opened-in-Err.was c.requires.pair_asked,
  ),
)

pub result_pair-returns-in_err-words-in-Err : goal.result_pair-returns-in_err-words-in-Err
result_pair-returns-in_err-words-in-Err t c =
    record {
      given = rw c.from_residual-in_err-words-in-Err.ensures (new_full_then c.args.had c.requires.tables c.name-name.ensures.read c.in-Err.ensures.found
          c.open_row.new.shapes c.open_row.result
          c.start_kinds.ensures.told c.open_row.ensures.opened c.in_ok-opened-in-Err.was
          c.result_into-in-Err.new.into c.result_into-in-Err.result
          c.result_into-in-Err.ensures.given
          c.in_err-words-in-Err.was);
      kept = c.result_into-in-Err.ensures.kept;
    }

pub result_pair-overflow_add-result : goal.result_pair-overflow_add-result
result_pair-overflow_add-result t c =
    let x = new_words c.args.had c.requires.tables c.name-name.ensures.read c.in-Err.ensures.found
    c.open_row.new.shapes c.open_row.result
    c.start_kinds.ensures.told c.open_row.ensures.opened c.in_ok-opened-in-Err.was
    c.result_into-in-Err.new.into c.result_into-in-Err.result c.result_into-in-Err.ensures.given
    c.in_ok-words-in-Err.was c.requires.pair_asked in
    omega (arith, x)

pub result_pair-returns-in_ok-words-in-Err : goal.result_pair-returns-in_ok-words-in-Err
result_pair-returns-in_ok-words-in-Err t c =
    record {
      given = new_answer c.args.had c.requires.tables c.name-name.ensures.read c.in-Err.ensures.found
          c.open_row.new.shapes c.open_row.result
          c.start_kinds.ensures.told c.open_row.ensures.opened c.in_ok-opened-in-Err.was
          c.result_into-in-Err.new.into c.result_into-in-Err.result
          c.result_into-in-Err.ensures.given
          c.in_ok-words-in-Err.was;
      kept = c.result_into-in-Err.ensures.kept;
    }

pub result_pairs-loop-i-init : goal.result_pairs-loop-i-init
result_pairs-loop-i-init t c =
    pairs_begin _ _ _ _ _ _ _ _ _ _ _ _ _ c.requires.tables.enough

pub result_pairs-overflow_add-used : goal.result_pairs-overflow_add-used
result_pairs-overflow_add-used t c =
    let x = pairs_tables c.requires.tables c.loop-i.invariant c.loop-i-test.true c.requires.pack_asked in
    omega (arith, x.enough, x.small)

pub result_pairs-overflow_add-last : goal.result_pairs-overflow_add-last
result_pairs-overflow_add-last t c =
    let x = pairs_last c.requires.tables c.loop-i.invariant c.loop-i-test.true c.requires.pack_asked in
    omega (arith, x.0, x.1, c.requires.tables.small)

pub result_pairs-result_pair-requires : goal.result_pairs-result_pair-requires
result_pairs-result_pair-requires t c =
    let x = pairs_size c.requires.tables c.loop-i.invariant c.loop-i-test.true c.requires.pack_asked in (
      omega (arith, c.decreases, x.0, x.1, c.loop-i.invariant.ahead),
      (
        pairs_asked c.requires.tables c.loop-i.invariant c.loop-i-test.true c.requires.pack_asked,
        pairs_tables c.requires.tables c.loop-i.invariant c.loop-i-test.true c.requires.pack_asked,
      ),
    )

pub result_pairs-returns-in_err-grown : goal.result_pairs-returns-in_err-grown
result_pairs-returns-in_err-grown t c =
    record {
      given = rw c.from_residual.ensures (pairs_full c.requires.tables c.loop-i.invariant c.loop-i-test.true c.result_pair.new.env
          c.result_pair.new.into c.result_pair.result c.result_pair.ensures.given
          c.result_pair.ensures.kept c.in_err-grown.was);
      kept = pairs_kept c.requires.tables c.loop-i.invariant c.loop-i-test.true c.result_pair.new.env
          c.result_pair.new.into c.result_pair.result c.result_pair.ensures.given
          c.result_pair.ensures.kept;
    }

pub result_pairs-overflow_add-grown : goal.result_pairs-overflow_add-grown
result_pairs-overflow_add-grown t c =
    let x = pairs_grown c.requires.tables c.loop-i.invariant c.loop-i-test.true
    c.result_pair.new.env c.result_pair.new.into
    c.result_pair.result c.result_pair.ensures.given c.result_pair.ensures.kept
    c.in_ok-grown.was c.requires.pack_asked in
    omega (arith, x, c.requires.tables.small)

pub result_pairs-overflow_add-i : goal.result_pairs-overflow_add-i
result_pairs-overflow_add-i t c =
    let x = pairs_size c.requires.tables c.loop-i.invariant c.loop-i-test.true c.requires.pack_asked in
    omega (arith, x.1, c.size.ensures.read)

pub result_pairs-loop-i-smaller : goal.result_pairs-loop-i-smaller
result_pairs-loop-i-smaller t c =
    let x = pairs_size c.requires.tables c.loop-i.invariant c.loop-i-test.true c.requires.pack_asked in
    omega (arith, x.0, x.2, c.size.ensures.read, c.loop-i-test.true)

pub result_pairs-loop-i-preserved : goal.result_pairs-loop-i-preserved
result_pairs-loop-i-preserved t c =
    pairs_loop_on c.requires.tables c.loop-i.invariant c.loop-i-test.true
    c.result_pair.new.env c.result_pair.new.into
    c.result_pair.result c.result_pair.ensures.given c.result_pair.ensures.kept
    c.in_ok-grown.was c.size.ensures.read c.result_pair.auto.into

pub result_pairs-returns : goal.result_pairs-returns
result_pairs-returns t c =
    record { given = pairs_end c.loop-i.invariant c.loop-i-test.false; kept = c.loop-i.invariant.kept }

pub result_when-overflow_add-row : goal.result_when-overflow_add-row
result_when-overflow_add-row t c =
    omega (arith, asked_within c.requires.result_asked)

pub result_when-locate-requires : goal.result_when-locate-requires
result_when-locate-requires t c =
    when_asks c.requires.tables c.requires.code refl refl (add-one c.args.bound) c.requires.result_asked

pub result_when-unreachable-requires : goal.result_when-unreachable-requires
result_when-unreachable-requires t c =
    when_never c.requires.tables c.requires.code refl refl (add-one c.args.bound) c.locate.result
    c.locate.ensures.found c.requires.result_asked.meets c.in_default.is

pub result_when-overflow_add-first : goal.result_when-overflow_add-first
result_when-overflow_add-first t c =
    omega (arith, asked_within c.requires.result_asked)

pub result_when-overflow_add-row-2 : goal.result_when-overflow_add-row-2
result_when-overflow_add-row-2 t c =
    omega (arith, asked_within c.requires.result_asked)

pub result_when-overflow_add-first-2 : goal.result_when-overflow_add-first-2
result_when-overflow_add-first-2 t c =
    let x = when_rows c.requires.tables c.requires.code refl refl (add-one c.args.bound) c.requires.result_asked in
    omega (arith, x.1, x.2, c.size.ensures.read)

pub result_when-overflow_add-second : goal.result_when-overflow_add-second
result_when-overflow_add-second t c =
    let x = when_rows c.requires.tables c.requires.code (one_part c.args.reader.now.forms.now c.args.row c.size.ensures.read)
    (two_parts c.args.reader.now.forms.now c.args.row c.size.ensures.read c.size-2.ensures.read) (add-one c.args.bound)
    c.requires.result_asked in
    omega (arith, x.2)

pub result_when-bind-requires : goal.result_when-bind-requires
result_when-bind-requires t c =
    record {
      slot_in_bounds = when_room c.requires.tables c.requires.code (one_part c.args.reader.now.forms.now c.args.row c.size.ensures.read)
          (two_parts c.args.reader.now.forms.now c.args.row c.size.ensures.read c.size-2.ensures.read)
          (add-one c.args.bound) c.requires.result_asked;
      fits = cut_fits c.requires.tables c.requires.code (one_part c.args.reader.now.forms.now c.args.row c.size.ensures.read)
          (two_parts c.args.reader.now.forms.now c.args.row c.size.ensures.read c.size-2.ensures.read)
          (add-one c.args.bound) c.locate.result c.locate.ensures.found c.in-Ok.is
          c.operand-test.ensures.read c.cut-kinds.ensures.told c.requires.result_asked;
    }

pub result_when-overflow_add-bound : goal.result_when-overflow_add-bound
result_when-overflow_add-bound t c =
    let x = when_room c.requires.tables c.requires.code
    (one_part c.args.reader.now.forms.now c.args.row c.size.ensures.read)
    (two_parts c.args.reader.now.forms.now c.args.row c.size.ensures.read c.size-2.ensures.read)
    (add-one c.args.bound) c.requires.result_asked in
    omega (arith, x)

pub result_when-result_into-requires : goal.result_when-result_into-requires
result_when-result_into-requires t c =
    let x = when_rows c.requires.tables c.requires.code
    (one_part c.args.reader.now.forms.now c.args.row c.size.ensures.read)
    (two_parts c.args.reader.now.forms.now c.args.row c.size.ensures.read c.size-2.ensures.read)
    (add-one c.args.bound) c.requires.result_asked in (
      omega (arith, c.decreases, x.0, x.1, x.2),
      (
        when_asked c.requires.tables c.requires.code (one_part c.args.reader.now.forms.now c.args.row c.size.ensures.read)
            (two_parts c.args.reader.now.forms.now c.args.row c.size.ensures.read c.size-2.ensures.read)
            (add-one c.args.bound) c.locate.result c.locate.ensures.found c.in-Ok.is
            c.operand-test.ensures.read c.cut-kinds.ensures.told c.bind.ensures.put c.requires.result_asked,
        c.requires.tables,
      ),
    )

pub result_when-returns-in_err-words : goal.result_when-returns-in_err-words
result_when-returns-in_err-words t c =
    record {
      given = rw c.from_residual.ensures (when_full_first c.requires.tables c.requires.code
          (one_part c.args.reader.now.forms.now c.args.row c.size.ensures.read)
          (two_parts c.args.reader.now.forms.now c.args.row c.size.ensures.read c.size-2.ensures.read)
          (add-one c.args.bound) c.locate.result c.locate.ensures.found c.in-Ok.is
          c.operand-test.ensures.read c.cut-kinds.ensures.told c.bind.ensures.put
          c.result_into.new.env c.result_into.new.into
          c.result_into.result c.result_into.ensures.given c.result_into.ensures.kept
          c.in_err-words.was);
      kept = when_kept_then c.requires.tables c.requires.code
          (one_part c.args.reader.now.forms.now c.args.row c.size.ensures.read)
          (two_parts c.args.reader.now.forms.now c.args.row c.size.ensures.read c.size-2.ensures.read)
          (add-one c.args.bound) c.locate.result c.locate.ensures.found c.in-Ok.is
          c.operand-test.ensures.read c.cut-kinds.ensures.told c.bind.ensures.put
          c.result_into.new.env c.result_into.new.into
          c.result_into.result c.result_into.ensures.given
          c.result_into.ensures.kept c.requires.result_asked;
    }

pub result_when-bind-requires-2 : goal.result_when-bind-requires-2
result_when-bind-requires-2 t c =
    let facts = out_fits c.requires.tables c.requires.code (one_part c.args.reader.now.forms.now c.args.row c.size.ensures.read)
    (two_parts c.args.reader.now.forms.now c.args.row c.size.ensures.read c.size-2.ensures.read)
    (add-one c.args.bound) c.locate.result c.locate.ensures.found c.in-Ok.is
    c.operand-test.ensures.read c.cut-kinds.ensures.told c.bind.ensures.put
    c.result_into.new.env c.result_into.new.into
    c.result_into.result c.result_into.ensures.given c.result_into.ensures.kept
    c.in_ok-words.was c.taken_out-kinds.ensures.told c.requires.result_asked in record { slot_in_bounds = facts.0; fits = facts.1 }

pub result_when-overflow_add-bound-2 : goal.result_when-overflow_add-bound-2
result_when-overflow_add-bound-2 t c =
    let x = when_room c.requires.tables c.requires.code
    (one_part c.args.reader.now.forms.now c.args.row c.size.ensures.read)
    (two_parts c.args.reader.now.forms.now c.args.row c.size.ensures.read c.size-2.ensures.read)
    (add-one c.args.bound) c.requires.result_asked in
    omega (arith, x)

pub result_when-overflow_add-used : goal.result_when-overflow_add-used
result_when-overflow_add-used t c =
    let x = when_tables c.requires.tables c.requires.code
    (one_part c.args.reader.now.forms.now c.args.row c.size.ensures.read)
    (two_parts c.args.reader.now.forms.now c.args.row c.size.ensures.read c.size-2.ensures.read)
    (add-one c.args.bound) c.locate.result c.locate.ensures.found c.in-Ok.is
    c.operand-test.ensures.read c.cut-kinds.ensures.told c.bind.ensures.put
    c.result_into.new.env c.result_into.new.into
    c.result_into.result c.result_into.ensures.given c.result_into.ensures.kept
    c.in_ok-words.was c.taken_out-kinds.ensures.told c.requires.result_asked in
    omega (arith, x.enough, x.small)

pub result_when-result_into-requires-2 : goal.result_when-result_into-requires-2
result_when-result_into-requires-2 t c =
    let x = when_rows c.requires.tables c.requires.code
    (one_part c.args.reader.now.forms.now c.args.row c.size.ensures.read)
    (two_parts c.args.reader.now.forms.now c.args.row c.size.ensures.read c.size-2.ensures.read)
    (add-one c.args.bound) c.requires.result_asked in (
      omega (arith, c.decreases, x.0, x.1, x.2),
      (
        when_asked_then c.requires.tables c.requires.code
            (one_part c.args.reader.now.forms.now c.args.row c.size.ensures.read)
            (two_parts c.args.reader.now.forms.now c.args.row c.size.ensures.read c.size-2.ensures.read)
            (add-one c.args.bound) c.locate.result c.locate.ensures.found c.in-Ok.is
            c.operand-test.ensures.read c.cut-kinds.ensures.told c.bind.ensures.put
            c.result_into.new.env c.result_into.new.into
            c.result_into.result c.result_into.ensures.given c.result_into.ensures.kept
            c.in_ok-words.was c.taken_out-kinds.ensures.told c.bind-2.ensures.put c.requires.result_asked,
        when_tables c.requires.tables c.requires.code (one_part c.args.reader.now.forms.now c.args.row c.size.ensures.read)
            (two_parts c.args.reader.now.forms.now c.args.row c.size.ensures.read c.size-2.ensures.read)
            (add-one c.args.bound) c.locate.result c.locate.ensures.found c.in-Ok.is
            c.operand-test.ensures.read c.cut-kinds.ensures.told c.bind.ensures.put
            c.result_into.new.env c.result_into.new.into
            c.result_into.result c.result_into.ensures.given c.result_into.ensures.kept
            c.in_ok-words.was c.taken_out-kinds.ensures.told c.requires.result_asked,
      ),
    )

pub result_when-returns-in_err-more : goal.result_when-returns-in_err-more
result_when-returns-in_err-more t c =
    record {
      given = rw c.from_residual-in_err-more.ensures (when_full_then c.requires.tables c.requires.code
          (one_part c.args.reader.now.forms.now c.args.row c.size.ensures.read)
          (two_parts c.args.reader.now.forms.now c.args.row c.size.ensures.read c.size-2.ensures.read)
          (add-one c.args.bound) c.locate.result c.locate.ensures.found c.in-Ok.is
          c.operand-test.ensures.read c.cut-kinds.ensures.told c.bind.ensures.put
          c.result_into.new.env c.result_into.new.into
          c.result_into.result c.result_into.ensures.given c.result_into.ensures.kept
          c.in_ok-words.was c.taken_out-kinds.ensures.told c.bind-2.ensures.put
          c.result_into-2.new.env
          c.result_into-2.new.into c.result_into-2.result
          c.result_into-2.ensures.given
          c.result_into-2.ensures.kept c.in_err-more.was);
      kept = when_kept c.requires.tables c.requires.code (one_part c.args.reader.now.forms.now c.args.row c.size.ensures.read)
          (two_parts c.args.reader.now.forms.now c.args.row c.size.ensures.read c.size-2.ensures.read)
          (add-one c.args.bound) c.locate.result c.locate.ensures.found c.in-Ok.is
          c.operand-test.ensures.read c.cut-kinds.ensures.told c.bind.ensures.put
          c.result_into.new.env c.result_into.new.into
          c.result_into.result c.result_into.ensures.given c.result_into.ensures.kept
          c.in_ok-words.was c.taken_out-kinds.ensures.told c.bind-2.ensures.put
          c.result_into-2.new.env
          c.result_into-2.new.into c.result_into-2.result
          c.result_into-2.ensures.given
          c.result_into-2.ensures.kept c.requires.result_asked;
    }

pub result_when-overflow_add-result : goal.result_when-overflow_add-result
result_when-overflow_add-result t c =
    let x = when_words c.requires.tables c.requires.code
    (one_part c.args.reader.now.forms.now c.args.row c.size.ensures.read)
    (two_parts c.args.reader.now.forms.now c.args.row c.size.ensures.read c.size-2.ensures.read)
    (add-one c.args.bound) c.locate.result c.locate.ensures.found c.in-Ok.is
    c.operand-test.ensures.read c.cut-kinds.ensures.told c.bind.ensures.put
    c.result_into.new.env c.result_into.new.into
    c.result_into.result c.result_into.ensures.given c.result_into.ensures.kept
    c.in_ok-words.was c.taken_out-kinds.ensures.told c.bind-2.ensures.put
    c.result_into-2.new.env
    c.result_into-2.new.into c.result_into-2.result c.result_into-2.ensures.given
    c.result_into-2.ensures.kept c.in_ok-more.was c.requires.result_asked in
    omega (arith, x)

pub result_when-returns : goal.result_when-returns
result_when-returns t c =
    record {
      given = when_answer c.requires.tables c.requires.code (one_part c.args.reader.now.forms.now c.args.row c.size.ensures.read)
          (two_parts c.args.reader.now.forms.now c.args.row c.size.ensures.read c.size-2.ensures.read)
          (add-one c.args.bound) c.locate.result c.locate.ensures.found c.in-Ok.is
          c.operand-test.ensures.read c.cut-kinds.ensures.told c.bind.ensures.put
          c.result_into.new.env c.result_into.new.into
          c.result_into.result c.result_into.ensures.given c.result_into.ensures.kept
          c.in_ok-words.was c.taken_out-kinds.ensures.told c.bind-2.ensures.put
          c.result_into-2.new.env
          c.result_into-2.new.into c.result_into-2.result
          c.result_into-2.ensures.given
          c.result_into-2.ensures.kept c.in_ok-more.was;
      kept = when_kept c.requires.tables c.requires.code (one_part c.args.reader.now.forms.now c.args.row c.size.ensures.read)
          (two_parts c.args.reader.now.forms.now c.args.row c.size.ensures.read c.size-2.ensures.read)
          (add-one c.args.bound) c.locate.result c.locate.ensures.found c.in-Ok.is
          c.operand-test.ensures.read c.cut-kinds.ensures.told c.bind.ensures.put
          c.result_into.new.env c.result_into.new.into
          c.result_into.result c.result_into.ensures.given c.result_into.ensures.kept
          c.in_ok-words.was c.taken_out-kinds.ensures.told c.bind-2.ensures.put
          c.result_into-2.new.env
          c.result_into-2.new.into c.result_into-2.result
          c.result_into-2.ensures.given
          c.result_into-2.ensures.kept c.requires.result_asked;
    }
