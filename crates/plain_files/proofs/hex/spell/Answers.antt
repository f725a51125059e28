use Rattle.std.proofs.Common.{◌≡◌, ℕ, ◌+◌, ◌*◌, ◌/◌, ◌%◌, ◌<◌, List, [], ◌∷◌, ◌++◌, length, take, get_or, set}
use Rattle.std.proofs.Common.{refl, sym, ap, ap₂, ◌∙◌, append_assoc, arith, length-set}
use Rattle.std.proofs.lemmas.List.{take_more, take_more_set}
use Rattle.definitions.specs.Plain.{hex_digit}
use Rattle.plain_files.specs.Lines.{hex_of}
use Rattle.plain_files.proofs.hex.spell.Goals as goal

hex_of-append : (s : List ℕ) (b : ℕ) → hex_of (s ++ (b ∷ [])) ≡ hex_of s ++ (hex_digit (b / 16) ∷ (hex_digit (b % 16) ∷ []))
hex_of-append [] b = refl
hex_of-append (a ∷ s) b = ap (λ l. hex_digit (a / 16) ∷ (hex_digit (a % 16) ∷ l)) (hex_of-append s b)

-- two stores make two digits more
take-set-set : (s : List ℕ) (k a b : ℕ) → k + 1 < length s → take (k + 2) (set (set s k a) (k + 1) b) ≡ take k s ++ (a ∷ (b ∷ []))
take-set-set s k a b h =
    let two : k + 2 ≡ k + 1 + 1 = omega arith in
    rw two
    (take_more_set (set s k a) (k + 1) b (omega (arith, h, length-set s k a))
    ∙ ap (λ l. l ++ (b ∷ [])) (take_more_set s k a (omega (arith, h)))
    ∙ append_assoc (take k s) (a ∷ []) (b ∷ []))

spelled_more
    : (bytes out : List ℕ) (i a b : ℕ) → i < length bytes → 2 * i + 1 < length out
    → a ≡ hex_digit (get_or bytes i 0 / 16) → b ≡ hex_digit (get_or bytes i 0 % 16)
    → take (2 * i) out ≡ hex_of (take i bytes) → take (2 * (i + 1)) (set (set out (2 * i) a) (2 * i + 1) b) ≡ hex_of (take (i + 1) bytes)
spelled_more bytes out i a b below room first second front =
    let two : 2 * (i + 1) ≡ 2 * i + 2 = omega arith in
    rw two
    (take-set-set out (2 * i) a b room
    ∙ ap₂ (λ l r. l ++ r) front (ap₂ (λ c d. c ∷ (d ∷ [])) first second)
    ∙ sym (hex_of-append (take i bytes) (get_or bytes i 0))
    ∙ ap hex_of (sym (take_more bytes i 0 below)))

pub loop-i-preserved : goal.loop-i-preserved
loop-i-preserved c =
    spelled_more c.args.bytes.now c.loop-i.out c.loop-i.i _ _ c.loop-i-test.true (omega arith) c.digit.ensures c.digit-in-loop-i.ensures c.loop-i.invariant
