-- `text::escape::needs_no_escape` meets its contract. Assumes nothing.
use mathlib.Core.Path.{sym, ap, ◌∙◌}
use mathlib.Core.Bool.{not, true≢false}
use borrow.Author.Tests.{eq-eqb}
use Rattle.text.proofs.Escaped.{itself}
use Rattle.text.proofs.escape.needs_no_escape.Goals as goal

pub returns-then-b-ne34 : goal.returns-then-b-ne34
returns-then-b-ne34 c =
    record { told = λ e. let h = c.if-b-ne34.true in itself _ h.0 h.1 (λ q. true≢false (sym e ∙ ap not (eq-eqb _ _ q))) }
