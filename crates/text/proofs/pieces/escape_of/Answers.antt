-- `text::pieces::escape_of` meets its contract: a row of `escape_table` for each answer. Assumes nothing.
use mathlib.Core.Path.{refl, sym}
use native.Mathlib.Omega.{arith}
use Rattle.definitions.specs.Bytes.{look, between}
use Rattle.definitions.specs.Text.{escape_table}
use Rattle.text.specs.TextParts.{escape_as}
use Rattle.text.proofs.Tables.{misses_look, value_at}
use Rattle.text.proofs.pieces.escape_of.Goals as goal

pub returns-in-34 : goal.returns-in-34
unfolding escape_as look between escape_table
returns-in-34 c = record { told = value_at (look escape_table) _ _ _ c.in-34.is refl }

pub returns-in-92 : goal.returns-in-92
unfolding escape_as look between escape_table
returns-in-92 c = record { told = value_at (look escape_table) _ _ _ c.in-92.is refl }

pub returns-in-47 : goal.returns-in-47
unfolding escape_as look between escape_table
returns-in-47 c = record { told = value_at (look escape_table) _ _ _ c.in-47.is refl }

pub returns-in-98 : goal.returns-in-98
unfolding escape_as look between escape_table
returns-in-98 c = record { told = value_at (look escape_table) _ _ _ c.in-98.is refl }

pub returns-in-102 : goal.returns-in-102
unfolding escape_as look between escape_table
returns-in-102 c = record { told = value_at (look escape_table) _ _ _ c.in-102.is refl }

pub returns-in-110 : goal.returns-in-110
unfolding escape_as look between escape_table
returns-in-110 c = record { told = value_at (look escape_table) _ _ _ c.in-110.is refl }

pub returns-in-114 : goal.returns-in-114
unfolding escape_as look between escape_table
returns-in-114 c = record { told = value_at (look escape_table) _ _ _ c.in-114.is refl }

pub returns-in-116 : goal.returns-in-116
unfolding escape_as look between escape_table
returns-in-116 c = record { told = value_at (look escape_table) _ _ _ c.in-116.is refl }

pub returns-in-117 : goal.returns-in-117
unfolding escape_as look between escape_table
returns-in-117 c = record { told = value_at (look escape_table) _ _ _ c.in-117.is refl }

pub returns-in_default : goal.returns-in_default
unfolding escape_as escape_table
returns-in_default c =
    record {
      told = sym (misses_look escape_table c.args.b (
        grind arith,
        (grind arith, (grind arith, (grind arith, (grind arith, (grind arith, (grind arith, (grind arith, (grind arith, tt)))))))),
      ));
    }
