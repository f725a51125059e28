-- `json_reader::name::read_name` meets its contract. Assumes nothing.
use mathlib.Core.Path.{sym, ◌∙◌}
use native.Mathlib.Omega.{arith}
use lib.Pow.{shl_exact}
use Rattle.nodes.specs.Nodes.{reference}
use Rattle.reading.proofs.Passed.{passed}
use Rattle.json_reader.specs.JsonParts.{name_place, ReadsName}
use Rattle.json_reader.proofs.NameReading.{text_closed, text_wrong, few_used, walkable, no_name, name_broken, name_twice, no_colon, name_read, name_room}
use Rattle.json_reader.proofs.name.read_name.Goals as goal

pub returns-then-peek-ne34 : goal.returns-then-peek-ne34
returns-then-peek-ne34 c =
    record {
      read = rw c.broken.ensures
          (no_name c.args.c c.requires c.skip_white-place.ensures.skipped (λ e. c.if-peek-ne34.true (c.peek.ensures.read ∙ e)));
    }

pub read_text-requires : goal.read_text-requires
read_text-requires c =
    name_room c.args.c c.requires c.skip_white-place.ensures.skipped (sym c.peek.ensures.read ∙ c.if-peek-ne34.false)

pub returns-in_err-read : goal.returns-in_err-read
returns-in_err-read c =
    record {
      read = passed (ReadsName c.args.doc.now c.args.nodes.now c.args.pool.now c.read_text.new.pool c.args.first c.args.seen c.args.c)
          c.from_residual.ensures
          (name_broken c.args.c c.requires c.skip_white-place.ensures.skipped (sym c.peek.ensures.read ∙ c.if-peek-ne34.false)
          c.read_text.ensures.read.kept
          (text_wrong c.read_text.result c.read_text.ensures.read c.map_err.ensures.cases c.in_err-read.was));
    }

pub name_place-bit-requires : goal.name_place-bit-requires
name_place-bit-requires c =
    let closed = text_closed c.read_text.result c.read_text.ensures.read c.map_err.ensures.cases c.in_ok-read.was in
    (closed.size, omega (arith, closed.shorter, closed.within, c.requires.ready.placed.short))

pub is_taken-requires : goal.is_taken-requires
is_taken-requires c =
    let closed = text_closed c.read_text.result c.read_text.ensures.read c.map_err.ensures.cases c.in_ok-read.was in
    record {
      rows = (walkable c.args.c c.requires c.read_text.ensures.read.kept c.read_text.ensures.read.front, closed.size);
      bit = c.name_place-bit.ensures.placed;
    }

pub returns-then-is_taken : goal.returns-then-is_taken
returns-then-is_taken c =
    record {
      read = name_twice c.args.c c.requires c.skip_white-place.ensures.skipped
          (sym c.peek.ensures.read ∙ c.if-peek-ne34.false) c.read_text.ensures.read.kept
          c.read_text.ensures.read.front
          (text_closed c.read_text.result c.read_text.ensures.read c.map_err.ensures.cases c.in_ok-read.was)
          c.is_taken.ensures.found c.if-is_taken.true;
    }

pub read_colon-requires : goal.read_colon-requires
read_colon-requires c =
    (text_closed c.read_text.result c.read_text.ensures.read c.map_err.ensures.cases c.in_ok-read.was).within

pub returns-in_err-next : goal.returns-in_err-next
returns-in_err-next c =
    record {
      read = passed (ReadsName c.args.doc.now c.args.nodes.now c.args.pool.now c.read_text.new.pool c.args.first c.args.seen c.args.c)
          c.from_residual-in_err-next.ensures
          (no_colon c.args.c c.requires c.skip_white-place.ensures.skipped
          (sym c.peek.ensures.read ∙ c.if-peek-ne34.false) c.read_text.ensures.read.kept
          c.read_text.ensures.read.front
          (text_closed c.read_text.result c.read_text.ensures.read c.map_err.ensures.cases c.in_ok-read.was)
          c.is_taken.ensures.found c.if-is_taken.false c.in_err-next.ensures.read);
    }

pub text_reference-requires : goal.text_reference-requires
unfolding reference
text_reference-requires c =
    let closed = text_closed c.read_text.result c.read_text.ensures.read c.map_err.ensures.cases c.in_ok-read.was in
    let few = few_used c.args.c c.requires in
    omega (arith, closed.shorter, closed.within, c.requires.ready.placed.short)

pub overflow_shl-result : goal.overflow_shl-result
unfolding name_place
overflow_shl-result c = omega (arith, c.name_place-bit.ensures.placed)

pub returns : goal.returns
unfolding name_place
returns c =
    record {
      read = name_read c.args.c c.requires c.skip_white-place.ensures.skipped
          (sym c.peek.ensures.read ∙ c.if-peek-ne34.false) c.read_text.ensures.read.kept
          c.read_text.ensures.read.front
          (text_closed c.read_text.result c.read_text.ensures.read c.map_err.ensures.cases c.in_ok-read.was)
          c.is_taken.ensures.found c.name_place-bit.ensures.placed
          (shl_exact {a = 1} 1 c.name_place-bit.result 64 (omega arith) (omega (arith, c.name_place-bit.ensures.placed)))
          c.if-is_taken.false c.in_ok-next.ensures.read c.text_reference.ensures.made;
    }
