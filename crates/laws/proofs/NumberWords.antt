-- A word that definitions' Number spells out to its end is RFC 8259's `number`, to its end, and the other way round.
-- Assumes nothing.
use Rattle.std.specs.Prelude.{◌≡◌, refl, Bool, true, false, [], ◌∷◌}
use Rattle.std.proofs.Common.{sym, ap, ◌∙◌, subst, append-nil}
use Rattle.std.proofs.Math.Option.{Option, none, some, some-injective, none-ne-some}
use Rattle.definitions.specs.Bytes.{Bytes, look}
use Rattle.definitions.specs.Number.{Numeral, Phase, spelled, begin, no_digits, complete, next, extend}
use Rattle.laws.specs.Rfc8259 as Rfc
use Rattle.laws.specs.Steps.{NumberSteps, number_stay, number_then}
use Rattle.laws.proofs.NumberTokens.{number_sound, number_steps}

-- p and d lead through the bytes to f and to where a number may end
abbrev Spells : Phase → Numeral → Bytes → Numeral → Type 0
Spells p d w f = (q : Phase) × NumberSteps p d w q f × (complete q ≡ true)

spelled_steps : (w : Bytes) (p : Phase) (d f : Numeral) → spelled p d w ≡ some f → Spells p d w f
unfolding spelled
spelled_steps [] p d f e = go (complete p) refl e
  where
    go : (b : Bool) → complete p ≡ b → elim b [ true ↦ some d | false ↦ none ] ≡ some f → Spells p d [] f
    go true c k = (p, subst (λ (x : Numeral). NumberSteps p d [] p x) (some-injective _ _ k) number_stay, c)
    go false c k = absurd (none-ne-some f k)
spelled_steps (b ∷ r) p d f e = go (λ q k. spelled_steps r q (extend q d b) f k) (look (next p) b) refl e
  where
    go
        : ((q : Phase) → spelled q (extend q d b) r ≡ some f → Spells q (extend q d b) r f) → (o : Option Phase)
        → look (next p) b ≡ o → elim o [ none ↦ none | some q ↦ spelled q (extend q d b) r ] ≡ some f → Spells p d (b ∷ r) f
    go again none c k = absurd (none-ne-some f k)
    go again (some q) c k = let (u, h, z) = again q k in (u, number_then c h, z)

pub spelled_number : (w : Bytes) (d : Numeral) → spelled begin no_digits w ≡ some d → Rfc.number w d []
spelled_number w d e =
    let (q, h, c) = spelled_steps w begin no_digits d e in
    subst (λ (x : Bytes). Rfc.number x d []) (append-nil w) (number_sound h c [])

steps_spelled : {w : Bytes} {p q : Phase} {d f : Numeral} → NumberSteps p d w q f → complete q ≡ true → spelled p d w ≡ some f
unfolding spelled
steps_spelled {d = d} number_stay c = ap (λ (b : Bool). elim b [ true ↦ some d | false ↦ none ]) c
steps_spelled {d = d} (number_then {xs} {b} e h) c =
    ap (λ (o : Option Phase). elim o [ none ↦ none | some q ↦ spelled q (extend q d b) xs ]) e ∙ steps_spelled h c

pub number_spelled : (w : Bytes) (d : Numeral) → Rfc.number w d [] → spelled begin no_digits w ≡ some d
number_spelled w d g =
    let (xs, p, e, h, c) = number_steps g in
    subst (λ (x : Bytes). spelled begin no_digits x ≡ some d) (sym (e ∙ append-nil xs)) (steps_spelled h c)
