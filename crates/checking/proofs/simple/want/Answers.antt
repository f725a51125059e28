-- `checking::simple::want` meets its contract. Assumes nothing.
use mathlib.Core.Path.{sym, ◌∙◌}
use Rattle.checking.proofs.SimpleForms.{want_met, want_unmet}
use Rattle.checking.proofs.simple.want.Goals as goal

pub returns-then-is_within : goal.returns-then-is_within
returns-then-is_within c =
    record { told = want_met c.args.kinds.kinds c.args.wanted.kinds c.args.given c.args.place (sym c.is_within.ensures.told ∙ c.if-is_within.true) }

pub returns : goal.returns
returns c =
    record {
      told = want_unmet c.args.kinds.kinds c.args.wanted.kinds c.args.given c.args.place
          (sym c.is_within.ensures.told ∙ c.if-is_within.false);
    }
