-- The proof of the cycle of calls {read_field, read_place}. The nesting left falls: a place's measure is twice what is left, and that of a
-- `field`, whose place has one less, lies between. Assumes nothing.
use Rattle.reading.proofs.Passed.{passed}
use Rattle.form_reader.specs.FormParts.{ReadsField, ReadsPlace}
use Rattle.form_reader.proofs.Steps.{unfound}
use Rattle.form_reader.proofs.PlaceReading.{name_refused, place_refused, field_open}
use Rattle.form_reader.proofs.PlaceReading.{field_read, begin_refused, no_place, it_placed, field_placed}
use Rattle.form_reader.proofs.places.+read_field_read_place.Goals as goal

pub read_field-returns-in_err-name : goal.read_field-returns-in_err-name
read_field-returns-in_err-name t c =
    record {
      read =
          passed
          (ReadsField c.args.left c.args.values c.args.bound c.args.text.now c.args.forms.now c.args.pool.now c.args.forms.now c.read_text.new.pool
          c.args.place c.args.c)
          c.from_residual.ensures (name_refused c.args.left c.args.c c.requires c.in_err-name.ensures.read);
    }

pub read_field-returns-in_err-behind : goal.read_field-returns-in_err-behind
read_field-returns-in_err-behind t c =
    record {
      read =
          passed
          (ReadsField c.args.left c.args.values c.args.bound c.args.text.now c.args.forms.now c.args.pool.now c.read_place.new.forms
          c.read_place.new.pool c.args.place c.args.c)
          c.from_residual-in_err-behind.ensures (place_refused c.args.left c.args.c c.requires c.in_ok-name.ensures.read c.in_err-behind.ensures.read);
    }

pub read_field-returns-in_err-to : goal.read_field-returns-in_err-to
read_field-returns-in_err-to t c =
    record {
      read =
          passed
          (ReadsField c.args.left c.args.values c.args.bound c.args.text.now c.args.forms.now c.args.pool.now c.read_place.new.forms
          c.read_place.new.pool c.args.place c.args.c)
          c.from_residual-in_err-to.ensures
          (field_open c.args.left c.args.c c.requires c.in_ok-name.ensures.read c.in_ok-behind.ensures.read c.in_err-to.ensures.read);
    }

pub read_field-returns : goal.read_field-returns
read_field-returns t c =
    record {
      read = field_read c.args.left c.args.c c.requires c.in_ok-name.ensures.read c.in_ok-behind.ensures.read c.in_ok-to.ensures.read c.put_row.ensures.put;
    }

pub read_place-returns-in_err-form : goal.read_place-returns-in_err-form
read_place-returns-in_err-form t c =
    record {
      read =
          passed
          (ReadsPlace c.args.left c.args.values c.args.bound c.args.text.now c.args.forms.now c.args.pool.now c.args.forms.now c.args.pool.now c.args.c)
          c.from_residual.ensures (begin_refused c.args.left c.args.c c.requires c.in_err-form.ensures.read);
    }

pub read_place-returns-in_err-code : goal.read_place-returns-in_err-code
read_place-returns-in_err-code t c =
    record {
      read =
          passed
          (ReadsPlace c.args.left c.args.values c.args.bound c.args.text.now c.args.forms.now c.args.pool.now c.args.forms.now c.args.pool.now c.args.c)
          c.from_residual-in_err-code.ensures
          (no_place c.args.left c.args.c c.requires c.in_ok-form.ensures.read.answer c.place_code.ensures.told
          (unfound c.place_code.result c.in_err-code.ensures.value c.misplaced.ensures.place c.misplaced.ensures.cause));
    }

pub read_place-returns-then-code-eq-IT : goal.read_place-returns-then-code-eq-IT
read_place-returns-then-code-eq-IT t c =
    record {
      read =
          it_placed c.args.left c.args.c c.requires c.in_ok-form.ensures.read.answer c.place_code.ensures.told c.in_ok-code.ensures.ok_part
          c.if-code-eq-IT.true c.read_it.ensures.read;
    }

pub read_place-returns : goal.read_place-returns
read_place-returns t c =
    record {
      read =
          field_placed c.args.left c.args.c c.requires c.in_ok-form.ensures.read.answer c.place_code.ensures.told c.in_ok-code.ensures.ok_part
          c.if-code-eq-IT.false c.read_field.ensures.read;
    }
