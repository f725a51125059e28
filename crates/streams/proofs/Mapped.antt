-- A result whose error is mapped is `Ok` where it was. Assumes nothing.
use Rattle.std.proofs.Common.{◌≡◌, sym, ◌∙◌, ap, true, false, Result, Ok, Err}
use Rattle.std.specs.Prelude.{MatchResult, OnOk, is_ok}

pub ok_before
    : {T E F : Type 0} (Q : E → Type 0) (r : Result T E) (q : Result T F) {x : T} → MatchResult r (λ v. q ≡ Ok v) Q → is_ok q ≡ is_ok r
    → q ≡ Ok x → r ≡ Ok x
ok_before Q (Ok v) q m w e = cc
ok_before Q (Err d) q m w e = absurd (let h : false ≡ true = sym w ∙ ap is_ok e in cc)

pub on_ok_behind : {T E F : Type 0} (G : Type 0) (r : Result T E) (q : Result T F) → is_ok q ≡ is_ok r → OnOk r G → OnOk q G
on_ok_behind G (Ok v) (Ok u) w g = g
on_ok_behind G (Ok v) (Err f) w g = tt
on_ok_behind G (Err d) (Ok u) w g = absurd (cc)
on_ok_behind G (Err d) (Err f) w g = tt
