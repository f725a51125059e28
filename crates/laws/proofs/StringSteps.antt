-- One step inside a JSON string (definitions' Text) as a relation with a constructor for each way through `text_step`.
-- Assumes nothing.
use Rattle.std.specs.Prelude.{ℕ, zero, suc, ◌+◌, ◌*◌, ◌≤◌, ◌<◌, ◌≡◌, refl, Bool, true, false, ltb}
use Rattle.std.proofs.Common.{sym, ◌∙◌, ap, subst, arith}
use mathlib.Core.List.{◌∷◌, reverse_aux}
use Rattle.std.proofs.Math.Option.{Option, none, some}
use Rattle.definitions.specs.Bytes.{Bytes, look, between, is}
use Rattle.definitions.specs.Utf8.{Tails, tails, head_table, encode}
use Rattle.definitions.specs.Text.{Inside, tail, pair, pair_u, TextMove, wrong, more, closed, head_step, char_step, behind_tail}
use Rattle.definitions.specs.Text.{escape_table, escape_step, hex_table, digit_fits, pair_of, unicode, digit_step, text_step}
use Rattle.laws.specs.Ranges.{look_hit, hits_look, is_eq, is_ne, ne_is, between_in, in_between, between_out, out_between, leb_le, le-leb, leb_gt, gt_leb}
use Rattle.laws.specs.Rfc3629.{In}
use Rattle.laws.specs.Rfc8259 as Rfc
use Rattle.laws.proofs.StringRows.{Heads, Escapes, short_escape, hex_escape, hit_heads, heads_look}
use Rattle.laws.proofs.StringRows.{hit_escapes, escapes_look, hit_hexdig, hexdig_hits, heads_above}

-- ---- the step

pub data Move : Inside → Bytes → ℕ → Inside → Bytes → Type 0 where
  plain
      : {a : Bytes} {b : ℕ} → In 0x20 0x7F b → (b ≡ 0x22 → ⊥) → (b ≡ 0x5C → ⊥)
      → Move Inside.chars a b Inside.chars (b ∷ a)
  head : {a : Bytes} {b lo hi n : ℕ} → Heads b lo hi n → Move Inside.chars a b (tail lo hi n) (b ∷ a)
  last_tail : {a : Bytes} {b lo hi : ℕ} → In lo hi b → Move (tail lo hi 0) a b Inside.chars (b ∷ a)
  next_tail : {a : Bytes} {b lo hi n : ℕ} → In lo hi b → Move (tail lo hi (suc n)) a b (tail 0x80 0xBF n) (b ∷ a)
  backslash : {a : Bytes} → Move Inside.chars a 0x5C Inside.escape a
  short : {a : Bytes} {b c : ℕ} → Rfc.escaped_char b c → Move Inside.escape a b Inside.chars (c ∷ a)
  hex : {a : Bytes} → Move Inside.escape a 0x75 (Inside.digits none 0 0) a
  digit
      : {h : Option ℕ} {a : Bytes} {b c d n : ℕ} → Rfc.HEXDIG b d → digit_fits h n c d ≡ true → n < 3
      → Move (Inside.digits h n c) a b (Inside.digits h (suc n) (c * 16 + d)) a
  high
      : {a : Bytes} {b c d n : ℕ} → Rfc.HEXDIG b d → digit_fits none n c d ≡ true → 3 ≤ n → In 0xD800 0xDBFF (c * 16 + d)
      → Move (Inside.digits none n c) a b (pair (c * 16 + d)) a
  alone
      : {a : Bytes} {b c d n : ℕ} → Rfc.HEXDIG b d → digit_fits none n c d ≡ true → 3 ≤ n
      → (In 0xD800 0xDBFF (c * 16 + d) → ⊥)
      → Move (Inside.digits none n c) a b Inside.chars (reverse_aux (encode (c * 16 + d)) a)
  low
      : {a : Bytes} {b c d n h : ℕ} → Rfc.HEXDIG b d → digit_fits (some h) n c d ≡ true → 3 ≤ n
      → Move (Inside.digits (some h) n c) a b Inside.chars (reverse_aux (encode (pair_of h (c * 16 + d))) a)
  pair_backslash : {a : Bytes} {h : ℕ} → Move (pair h) a 0x5C (pair_u h) a
  pair_hex : {a : Bytes} {h : ℕ} → Move (pair_u h) a 0x75 (Inside.digits (some h) 0 0) a

-- what a byte does, with its reason
pub data Moved (a : Bytes) : Inside → ℕ → TextMove → Type 0 where
  moved : {i j : Inside} {b : ℕ} {c : Bytes} → Move i a b j c → Moved a i b (more j c)
  quote : Moved a Inside.chars 0x22 closed
  stuck : {i : Inside} {b : ℕ} → Moved a i b wrong

chars_view : (a : Bytes) (b : ℕ) → Moved a Inside.chars b (char_step a b)
unfolding char_step head_step
chars_view a b = go (is "\"" b) refl (is "\\" b) refl (between 0x20 0x7F b) refl (look head_table b) refl
  where
    go
        : (t : Bool) → is "\"" b ≡ t → (u : Bool) → is "\\" b ≡ u → (v : Bool) → between 0x20 0x7F b ≡ v
        → (w : Option Tails) → look head_table b ≡ w → Moved a Inside.chars b (char_step a b)
    go true e u f v g w h = rw (e, char_step) (subst (λ x. Moved a Inside.chars x closed) (sym (is_eq "\"" e)) quote)
    go false e true f v g w h =
        rw (e, f, char_step) (subst (λ x. Moved a Inside.chars x (more Inside.escape a)) (sym (is_eq "\\" f)) (moved backslash))
    go false e false f true g w h = rw (e, f, g, char_step) (moved (plain (between_in g) (is_ne "\"" e) (is_ne "\\" f)))
    go false e false f false g none h = rw (e, f, g, h, char_step, head_step) stuck
    go false e false f false g (some (tails lo hi n)) h =
        rw (e, f, g, h, char_step, head_step) (moved (head (hit_heads (look_hit head_table b (tails lo hi n) h))))

tail_view : (a : Bytes) (lo hi n b : ℕ) → Moved a (tail lo hi n) b (text_step (tail lo hi n) a b)
unfolding text_step behind_tail
tail_view a lo hi n b = go n (between lo hi b) refl
  where
    go : (n : ℕ) (t : Bool) → between lo hi b ≡ t → Moved a (tail lo hi n) b (text_step (tail lo hi n) a b)
    go zero true e = rw (e, text_step) (moved (last_tail (between_in e)))
    go (suc n) true e = rw (e, text_step) (moved (next_tail (between_in e)))
    go zero false e = rw (e, text_step) stuck
    go (suc n) false e = rw (e, text_step) stuck

short_turn : {a : Bytes} {b c : ℕ} → Escapes b (some c) → Move Inside.escape a b Inside.chars (c ∷ a)
short_turn (short_escape x) = short x

hex_turn : {a : Bytes} {b : ℕ} → Escapes b none → Move Inside.escape a b (Inside.digits none 0 0) a
hex_turn hex_escape = hex

escape_view : (a : Bytes) (b : ℕ) → Moved a Inside.escape b (escape_step a b)
unfolding escape_step
escape_view a b = go (look escape_table b) refl
  where
    go : (t : Option (Option ℕ)) → look escape_table b ≡ t → Moved a Inside.escape b (escape_step a b)
    go none e = rw (e, escape_step) stuck
    go (some none) e = rw (e, escape_step) (moved (hex_turn (hit_escapes (look_hit escape_table b none e))))
    go (some (some c)) e = rw (e, escape_step) (moved (short_turn (hit_escapes (look_hit escape_table b (some c) e))))

-- the character's bytes, or a high surrogate that waits
last_view
    : (a : Bytes) (o : Option ℕ) {n c b d : ℕ} → Rfc.HEXDIG b d → digit_fits o n c d ≡ true → 3 ≤ n
    → Moved a (Inside.digits o n c) b (unicode o (c * 16 + d) a)
unfolding unicode
last_view a none {n} {c} {b} {d} x f l = go (between 0xD800 0xDBFF (c * 16 + d)) refl
  where
    go
        : (t : Bool) → between 0xD800 0xDBFF (c * 16 + d) ≡ t
        → Moved a (Inside.digits none n c) b (unicode none (c * 16 + d) a)
    go true e = rw (e, unicode) (moved (high x f l (between_in e)))
    go false e = rw (e, unicode) (moved (alone x f l (between_out e)))
last_view a (some h) x f l = moved (low x f l)

digit_view
    : (a : Bytes) (o : Option ℕ) (n c : ℕ) {b d : ℕ} → Rfc.HEXDIG b d → Moved a (Inside.digits o n c) b (digit_step o n c d a)
unfolding digit_step
digit_view a o n c {b} {d} x = go (digit_fits o n c d) refl (ltb n 3) refl
  where
    go
        : (t : Bool) → digit_fits o n c d ≡ t → (u : Bool) → ltb n 3 ≡ u
        → Moved a (Inside.digits o n c) b (digit_step o n c d a)
    go true e true f = rw (e, f, digit_step) (moved (digit x e (leb_le f)))
    go true e false f = let l : 3 ≤ n = (let k : 3 < suc n = leb_gt f in omega arith) in rw (e, f, digit_step) (last_view a o x e l)
    go false e true f = rw (e, digit_step) stuck
    go false e false f = rw (e, digit_step) stuck

digits_view : (a : Bytes) (o : Option ℕ) (n c b : ℕ) → Moved a (Inside.digits o n c) b (text_step (Inside.digits o n c) a b)
unfolding text_step
digits_view a o n c b = go (look hex_table b) refl
  where
    go : (t : Option ℕ) → look hex_table b ≡ t → Moved a (Inside.digits o n c) b (text_step (Inside.digits o n c) a b)
    go none e = rw (e, text_step) stuck
    go (some k) e = rw (e, text_step) (digit_view a o n c (hit_hexdig (look_hit hex_table b k e)))

pair_view : (a : Bytes) (h b : ℕ) → Moved a (pair h) b (text_step (pair h) a b)
unfolding text_step
pair_view a h b = go (is "\\" b) refl
  where
    go : (t : Bool) → is "\\" b ≡ t → Moved a (pair h) b (text_step (pair h) a b)
    go true e = rw (e, text_step) (subst (λ x. Moved a (pair h) x (more (pair_u h) a)) (sym (is_eq "\\" e)) (moved pair_backslash))
    go false e = rw (e, text_step) stuck

pair_u_view : (a : Bytes) (h b : ℕ) → Moved a (pair_u h) b (text_step (pair_u h) a b)
unfolding text_step
pair_u_view a h b = go (is "u" b) refl
  where
    go : (t : Bool) → is "u" b ≡ t → Moved a (pair_u h) b (text_step (pair_u h) a b)
    go true e =
        rw (e, text_step) (subst (λ x. Moved a (pair_u h) x (more (Inside.digits (some h) 0 0) a)) (sym (is_eq "u" e)) (moved pair_hex))
    go false e = rw (e, text_step) stuck

pub view : (a : Bytes) (i : Inside) (b : ℕ) → Moved a i b (text_step i a b)
unfolding text_step
view a Inside.chars b = chars_view a b
view a (tail lo hi n) b = tail_view a lo hi n b
view a Inside.escape b = escape_view a b
view a (Inside.digits o n c) b = digits_view a o n c b
view a (pair h) b = pair_view a h b
view a (pair_u h) b = pair_u_view a h b

-- ---- both directions

of_moved : {a c : Bytes} {i j : Inside} {b : ℕ} → Moved a i b (more j c) → Move i a b j c
of_moved (moved m) = m

pub step_move : {a c : Bytes} {i j : Inside} {b : ℕ} → text_step i a b ≡ more j c → Move i a b j c
step_move {a} {c} {i} {j} {b} e = of_moved (subst (Moved a i b) e (view a i b))

of_closed : {a : Bytes} {i : Inside} {b : ℕ} → Moved a i b closed → (i ≡ Inside.chars) × (b ≡ 0x22)
of_closed quote = (refl, refl)

-- only the quote between characters closes
pub step_closed : (a : Bytes) (i : Inside) (b : ℕ) → text_step i a b ≡ closed → (i ≡ Inside.chars) × (b ≡ 0x22)
step_closed a i b e = of_closed (subst (Moved a i b) e (view a i b))

pub quote_closes : (a : Bytes) → text_step Inside.chars a 0x22 ≡ closed
unfolding text_step char_step is
quote_closes a = refl

digit_step_of
    : (o : Option ℕ) (n c : ℕ) (a : Bytes) {b d : ℕ} → Rfc.HEXDIG b d
    → text_step (Inside.digits o n c) a b ≡ digit_step o n c d a
unfolding text_step
digit_step_of o n c a {b} {d} x =
    let k = hexdig_hits x in
    rw (hits_look hex_table b k.0 k.1, text_step) (ap (λ y. digit_step o n c y a) k.2)

last_of
    : (o : Option ℕ) (n c : ℕ) (a : Bytes) {b d : ℕ} → Rfc.HEXDIG b d → digit_fits o n c d ≡ true → 3 ≤ n
    → text_step (Inside.digits o n c) a b ≡ unicode o (c * 16 + d) a
unfolding digit_step
last_of o n c a {b} {d} x f l =
    let g : ltb n 3 ≡ false = gt_leb (let z : 3 < suc n = omega arith in z) in
    digit_step_of o n c a x ∙ rw (f, g, digit_step)

head_of
    : (a : Bytes) {b lo hi n : ℕ} → Heads b lo hi n → text_step Inside.chars a b ≡ more (tail lo hi n) (b ∷ a)
unfolding text_step char_step head_step
head_of a {b} {lo} {hi} {n} h =
    let l : 0xC2 ≤ b = heads_above h in
    let q : is "\"" b ≡ false = ne_is "\"" (λ e. ne 0x22 e (omega arith)) in
    let s : is "\\" b ≡ false = ne_is "\\" (λ e. ne 0x5C e (omega arith)) in
    let o : between 0x20 0x7F b ≡ false = out_between (λ i. out i l) in
    rw (q, s, o, heads_look h, text_step, char_step, head_step)
  where
    ne : (k : ℕ) → b ≡ k → k < b → ⊥
    ne k e l = omega arith

    out : In 0x20 0x7F b → 0xC2 ≤ b → ⊥
    out i l = omega arith

pub move_step : {a c : Bytes} {i j : Inside} {b : ℕ} → Move i a b j c → text_step i a b ≡ more j c
unfolding text_step char_step head_step escape_step digit_step unicode behind_tail is
move_step {b} (plain i q s) = rw (ne_is "\"" q, ne_is "\\" s, in_between i, text_step, char_step)
move_step {a} (head h) = head_of a h
move_step (last_tail i) = rw (in_between i, text_step)
move_step (next_tail i) = rw (in_between i, text_step)
move_step backslash = refl
move_step (short x) = rw (escapes_look (short_escape x), text_step, escape_step)
move_step hex = rw (escapes_look hex_escape, text_step, escape_step)
move_step {a} (digit {h} {c} {n} x f l) = let g : ltb n 3 ≡ true = le-leb l in digit_step_of h n c a x ∙ rw (f, g, digit_step)
move_step {a} (high {c} {n} x f l i) = last_of none n c a x f l ∙ rw (in_between i, unicode)
move_step {a} (alone {c} {n} x f l i) = last_of none n c a x f l ∙ rw (out_between i, unicode)
move_step {a} (low {c} {n} {h} x f l) = last_of (some h) n c a x f l
move_step pair_backslash = refl
move_step pair_hex = refl
