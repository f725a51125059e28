use Rattle.std.proofs.Common.{ℕ, ltb, sym, rules, tests, ◌∙◌}
use Rattle.std.proofs.lemmas.Iterator.{YieldsList-from_slice, YieldsList-from_zip}
use Rattle.std.proofs.lemmas.Iterator.Search.{any_from_yields_List}
use Rattle.slices.proofs.Short.{any_short}
use Rattle.slices.proofs.one_short.Goals as goal

pub returns : goal.returns
returns g c =
    let asked = c.args.asked.now in
    let lent = c.args.lent.now in
    record {
      told =
          any_from_yields_List (λ (p : ℕ × ℕ). ltb p.1 p.0) c.any.new.self c.any.new.f c.any.result c.any.ensures.ran
          (YieldsList-from_zip (YieldsList-from_slice asked cc) (YieldsList-from_slice lent cc))
          (λ x b q k. search (rules, tests))
          ∙ any_short asked lent (c.told-asked ∙ sym c.told-lent);
    }
