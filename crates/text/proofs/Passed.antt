-- What the exit of a `?` returns whose error goes up as it is. Assumes nothing.
use mathlib.Core.Path.{◌≡◌, sym, ap, ◌∙◌, subst}
use Rattle.std.specs.Prelude.{Result, Err, IsErrAnd}
use Rattle.std.proofs.lemmas.Result.{err_from_is_err_and}

-- what holds of the error holds of it
pub passed
    : {A E : Type 0} (P : Result A E → Type 0) (r : Result A E) {e : E} → IsErrAnd r (λ y. y ≡ e) → P (Err e) → P r
passed P r {e} h k =
    let p = err_from_is_err_and r h in
    subst P (sym (p.1 ∙ ap (λ y. Err y) p.2)) k
