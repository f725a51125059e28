-- `text::wide::tails_of` meets its contract: a row of `head_table` for each answer. Assumes nothing.
use mathlib.Core.Path.{sym}
use mathlib.Core.Logic.{inl, inr}
use Rattle.laws.proofs.StringRows.{head_c2, head_e0, head_e1, head_ed, head_ee, head_f0, head_f1, head_f4, heads_look}
use Rattle.text.specs.TextParts.{tails_as}
use Rattle.text.proofs.Characters.{head_none}
use native.Mathlib.Omega.{arith}
use Rattle.text.proofs.wide.tails_of.Goals as goal

pub returns-in-224 : goal.returns-in-224
unfolding tails_as
returns-in-224 c = record { told = sym (heads_look (head_e0 (omega arith))) }

pub returns-in-237 : goal.returns-in-237
unfolding tails_as
returns-in-237 c = record { told = sym (heads_look (head_ed (omega arith))) }

pub returns-in-240 : goal.returns-in-240
unfolding tails_as
returns-in-240 c = record { told = sym (heads_look (head_f0 (omega arith))) }

pub returns-in-244 : goal.returns-in-244
unfolding tails_as
returns-in-244 c = record { told = sym (heads_look (head_f4 (omega arith))) }

pub returns-in-194-to-223 : goal.returns-in-194-to-223
unfolding tails_as
returns-in-194-to-223 c = record { told = sym (heads_look (head_c2 (omega arith))) }

pub returns-in-225-to-236 : goal.returns-in-225-to-236
unfolding tails_as
returns-in-225-to-236 c = record { told = sym (heads_look (head_e1 (omega arith))) }

pub returns-in-238-to-239 : goal.returns-in-238-to-239
unfolding tails_as
returns-in-238-to-239 c = record { told = sym (heads_look (head_ee (omega arith))) }

pub returns-in-241-to-243 : goal.returns-in-241-to-243
unfolding tails_as
returns-in-241-to-243 c = record { told = sym (heads_look (head_f1 (omega arith))) }

pub returns-in_default : goal.returns-in_default
unfolding tails_as
returns-in_default c = record { told = sym (head_none _ (inl (omega arith))) }

pub returns-in_default-2 : goal.returns-in_default-2
unfolding tails_as
returns-in_default-2 c = record { told = sym (head_none _ (inr (omega arith))) }
