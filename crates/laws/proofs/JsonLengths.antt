-- What the grammar leaves is shorter than what it began with. Assumes nothing.
use Rattle.std.specs.Prelude.{ℕ, suc, ◌+◌, ◌<◌, ◌≤◌, ◌≡◌, true, ◌∷◌, ◌++◌, length}
use Rattle.std.proofs.Common.{arith, ◌∙◌, ap, length-append}
use Rattle.std.proofs.lemmas.Bool.{false≢true}
use Rattle.definitions.specs.Bytes.{Bytes}
use Rattle.definitions.specs.Number.{Numeral, Phase, begin, no_digits, complete}
use Rattle.laws.specs.Tree.{Tree, Trees, Named}
use Rattle.laws.specs.Rfc8259 as Rfc
use Rattle.laws.specs.Rfc8259.{ws, ws_none, ws_more, structural, char_of}
use Rattle.laws.specs.Steps.{NumberSteps, number_stay, number_then}
use Rattle.laws.proofs.StringTokens.{chars_steps}
use Rattle.laws.proofs.NumberTokens.{number_steps}

pub ws_length : {s r : Bytes} → ws s r → length r ≤ length s
ws_length ws_none = omega arith
ws_length (ws_more {s} {r} c w) = let h : length r ≤ length s = ws_length w in omega arith

pub structural_length : {c : ℕ} {s r : Bytes} → structural c s r → length r < length s
structural_length {s} {r} (char_of {t} v w) =
    let h : suc (length t) ≤ length s = ws_length v in
    let g : length r ≤ length t = ws_length w in
    omega arith

pub string_length : {s t r : Bytes} → Rfc.string s t r → length r < length s
string_length {r} (Rfc.quoted {s} c) =
    let (xs, e, f) = chars_steps c in
    let h : length s ≡ length xs + suc (length r) = ap length e ∙ length-append xs (0x22 ∷ r) in
    omega arith

pub number_length : {s r : Bytes} {d : Numeral} → Rfc.number s d r → length r < length s
unfolding complete
number_length {s} {r} n = let (xs, p, e, f, c) = number_steps n in more xs p e f c
  where
    more
        : {d : Numeral} (xs : Bytes) (p : Phase) → s ≡ xs ++ r → NumberSteps begin no_digits xs p d → complete p ≡ true
        → length r < length s
    more xs p e number_stay c = absurd (false≢true c)
    more xs p e (number_then {xs = ys} {b} g f) c =
        let h : length s ≡ length (b ∷ ys) + length r = ap length e ∙ length-append (b ∷ ys) r in
        omega arith

mutual
  pub value_length : {s r : Bytes} {x : Tree} → Rfc.value s x r → length r < length s
  value_length Rfc.is_false = omega arith
  value_length Rfc.is_null = omega arith
  value_length Rfc.is_true = omega arith
  value_length (Rfc.is_object h) = object_length h
  value_length (Rfc.is_array h) = array_length h
  value_length (Rfc.is_number h) = number_length h
  value_length (Rfc.is_string h) = string_length h

  pub object_length : {s r : Bytes} {ns : Named} → Rfc.object s ns r → length r < length s
  object_length (Rfc.empty_object b e) = omega (arith, structural_length b, structural_length e)
  object_length (Rfc.members b m ms e) =
      omega (arith, structural_length b, member_length m, more_members_length ms, structural_length e)

  pub member_length : {s r n : Bytes} {x : Tree} → Rfc.member s n x r → length r < length s
  member_length (Rfc.name_value a c v) = omega (arith, string_length a, structural_length c, value_length v)

  pub more_members_length : {s r : Bytes} {ns : Named} → Rfc.more_members s ns r → length r ≤ length s
  more_members_length Rfc.no_member = omega arith
  more_members_length (Rfc.next_member c m ms) = omega (arith, structural_length c, member_length m, more_members_length ms)

  pub array_length : {s r : Bytes} {ts : Trees} → Rfc.array s ts r → length r < length s
  array_length (Rfc.empty_array b e) = omega (arith, structural_length b, structural_length e)
  array_length (Rfc.values b v vs e) =
      omega (arith, structural_length b, value_length v, more_values_length vs, structural_length e)

  pub more_values_length : {s r : Bytes} {ts : Trees} → Rfc.more_values s ts r → length r ≤ length s
  more_values_length Rfc.no_value = omega arith
  more_values_length (Rfc.next_value c v vs) = omega (arith, structural_length c, value_length v, more_values_length vs)
