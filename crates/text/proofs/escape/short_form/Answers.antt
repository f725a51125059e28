-- `text::escape::short_form` meets its contract: a row of `short_escapes` for each answer. Assumes nothing.
use mathlib.Core.Path.{refl}
use native.Mathlib.Omega.{arith}
use Rattle.definitions.specs.Bytes.{bytes, look, between}
use Rattle.definitions.specs.Plain.{short_escapes}
use Rattle.text.specs.TextParts.{short_form}
use Rattle.text.proofs.Tables.{value_at}
use Rattle.text.proofs.Escaped.{short_misses}
use Rattle.text.proofs.escape.short_form.Goals as goal

pub returns-in-34 : goal.returns-in-34
unfolding short_form look between short_escapes bytes
returns-in-34 c = record { found = value_at short_form _ _ _ c.in-34.is refl }

pub returns-in-92 : goal.returns-in-92
unfolding short_form look between short_escapes bytes
returns-in-92 c = record { found = value_at short_form _ _ _ c.in-92.is refl }

pub returns-in-8 : goal.returns-in-8
unfolding short_form look between short_escapes bytes
returns-in-8 c = record { found = value_at short_form _ _ _ c.in-8.is refl }

pub returns-in-12 : goal.returns-in-12
unfolding short_form look between short_escapes bytes
returns-in-12 c = record { found = value_at short_form _ _ _ c.in-12.is refl }

pub returns-in-10 : goal.returns-in-10
unfolding short_form look between short_escapes bytes
returns-in-10 c = record { found = value_at short_form _ _ _ c.in-10.is refl }

pub returns-in-13 : goal.returns-in-13
unfolding short_form look between short_escapes bytes
returns-in-13 c = record { found = value_at short_form _ _ _ c.in-13.is refl }

pub returns-in-9 : goal.returns-in-9
unfolding short_form look between short_escapes bytes
returns-in-9 c = record { found = value_at short_form _ _ _ c.in-9.is refl }

pub returns-in_default : goal.returns-in_default
unfolding short_escapes
returns-in_default c =
    record { found = short_misses c.args.b (grind arith, (grind arith, (grind arith, (grind arith, (grind arith, (grind arith, (grind arith, tt))))))) }
