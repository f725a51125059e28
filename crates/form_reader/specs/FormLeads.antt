-- A result that is being read: what stands before the results inside it, and how many of these must still come. Assumes nothing.
use Rattle.std.specs.Prelude.{ℕ, suc, ◌<◌, ◌≡◌, Bool, true, false, List, [], ◌++◌, eqb}
use Rattle.definitions.specs.Bytes.{Bytes}
use Rattle.definitions.specs.Value.{Value}
use Rattle.definitions.specs.Reader.{Place, Conversion, Test, Result, Pairs, no_pairs, pair, pairs_onto, Frame, each_body, when_first, when_second}
use Rattle.definitions.specs.Reader.{if_first, if_second, if_third, Around, in_form, PlaceUse, converts, keeps, counts, maps, tests, in_result, Want}
use Rattle.definitions.specs.Reader.{place_open, result_open, pack_name, result_close, use_place, use_result}
use Rattle.nodes.specs.Nodes.{number_bits, Refers}
use Rattle.forms.specs.Forms.{literal_code, LiteralPayload, PlaceRows, FormRows}
use Rattle.form_reader.specs.FormWords.{use_code, use_operand}

-- ---- what stands before the results

-- a use and its place; `if`; `pack`; a literal
pub data Lead : Type 0 where
  with_place : PlaceUse → Place → Lead
  choosing packing : Lead
  saying : Value → Lead

unfoldable pub lead_code : Lead → ℕ
lead_code (with_place u q) = use_code u
lead_code choosing = 11
lead_code packing = 17
lead_code (saying v) = literal_code v

-- the results of a pack have names
unfoldable pub named : Lead → Bool
named (with_place u q) = false
named choosing = false
named packing = true
named (saying v) = false

-- how many results a result of this code has; of a pack, which may have any number, 0
unfoldable pub parts_of : ℕ → ℕ
parts_of code =
    elim (eqb code 9) [
      | true ↦ 1
      | false ↦ elim (eqb code 10) [ true ↦ 2 | false ↦ elim (eqb code 11) [ true ↦ 3 | false ↦ 0 ] ]
    ]

-- how many bindings there are inside it
unfoldable pub inner_bound : (code bound : ℕ) → ℕ
inner_bound code bound =
    elim (eqb code 9) [ true ↦ suc bound | false ↦ elim (eqb code 10) [ true ↦ suc bound | false ↦ bound ] ]

-- ---- where the next result stands, the results before it latest first

unfoldable pub place_frame : PlaceUse → Place → Pairs → Frame
place_frame (converts c) q ps = each_body q
place_frame keeps q ps = each_body q
place_frame counts q ps = each_body q
place_frame maps q ps = each_body q
place_frame (tests k) q no_pairs = when_first k q
place_frame (tests k) q (pair n r ps) = when_second k q r

unfoldable pub if_frame : Pairs → Frame
if_frame no_pairs = if_first
if_frame (pair n r no_pairs) = if_second r
if_frame (pair n r₂ (pair m r₁ ps)) = if_third r₁ r₂

-- what must come behind them
unfoldable pub next : Lead → Pairs → (at : ℕ) → Around → Want
next (with_place u q) no_pairs at o = use_place at u q o
next (with_place u q) (pair n r ps) at o = use_result at (place_frame u q ps) r o
next choosing no_pairs at o = result_open (in_form at if_first o)
next choosing (pair n r ps) at o = use_result at (if_frame ps) r o
next packing ps at o = pack_name at ps o
next (saying v) ps at o = result_close (Result.literal at v) o

-- k results must still come
pub data Filled : Lead → Pairs → (k : ℕ) → Type 0 where
  converted : {c : Conversion} {q : Place} {k : ℕ} → k ≡ 0 → Filled (with_place (converts c) q) no_pairs k
  kept : {q : Place} {k : ℕ} → k ≡ 0 → Filled (with_place keeps q) no_pairs k
  counted : {q : Place} {k : ℕ} → k ≡ 0 → Filled (with_place counts q) no_pairs k
  mapping : {q : Place} {k : ℕ} → k ≡ 1 → Filled (with_place maps q) no_pairs k
  mapped : {q : Place} {n : Bytes} {r : Result} {k : ℕ} → k ≡ 0 → Filled (with_place maps q) (pair n r no_pairs) k
  testing : {t : Test} {q : Place} {k : ℕ} → k ≡ 2 → Filled (with_place (tests t) q) no_pairs k
  tested_first
      : {t : Test} {q : Place} {n : Bytes} {r : Result} {k : ℕ} → k ≡ 1 → Filled (with_place (tests t) q) (pair n r no_pairs) k
  tested
      : {t : Test} {q : Place} {n m : Bytes} {r₁ r₂ : Result} {k : ℕ} → k ≡ 0
      → Filled (with_place (tests t) q) (pair n r₂ (pair m r₁ no_pairs)) k
  chosen_none : {k : ℕ} → k ≡ 3 → Filled choosing no_pairs k
  chosen_first : {n : Bytes} {r : Result} {k : ℕ} → k ≡ 2 → Filled choosing (pair n r no_pairs) k
  chosen_second : {n m : Bytes} {r₁ r₂ : Result} {k : ℕ} → k ≡ 1 → Filled choosing (pair n r₂ (pair m r₁ no_pairs)) k
  chosen
      : {n m i : Bytes} {r₁ r₂ r₃ : Result} {k : ℕ} → k ≡ 0
      → Filled choosing (pair n r₃ (pair m r₂ (pair i r₁ no_pairs))) k
  packed : {ps : Pairs} {k : ℕ} → k ≡ 0 → Filled packing ps k
  said : {v : Value} {k : ℕ} → k ≡ 0 → Filled (saying v) no_pairs k

-- ---- the whole result, where none must

unfoldable pub whole_each : (at : ℕ) → Place → Pairs → Result
whole_each at q no_pairs = Result.keep at q
whole_each at q (pair n r ps) = Result.each at q r

unfoldable pub whole_when : (at : ℕ) → Test → Place → Pairs → Result
whole_when at k q no_pairs = Result.keep at q
whole_when at k q (pair n r no_pairs) = Result.keep at q
whole_when at k q (pair n r₂ (pair m r₁ ps)) = Result.when at k q r₁ r₂

unfoldable pub whole_if : (at : ℕ) → Pairs → Result
whole_if at no_pairs = Result.pack at no_pairs
whole_if at (pair n r no_pairs) = Result.pack at no_pairs
whole_if at (pair n r (pair m s no_pairs)) = Result.pack at no_pairs
whole_if at (pair n r₃ (pair m r₂ (pair i r₁ ps))) = Result.choose at r₁ r₂ r₃

-- a result of a lead and its parts; any other number of parts is none's
unfoldable pub whole : (at : ℕ) → Lead → Pairs → Result
whole at (with_place (converts c) q) ps = Result.convert at c q
whole at (with_place keeps q) ps = Result.keep at q
whole at (with_place counts q) ps = Result.count at q
whole at (with_place maps q) ps = whole_each at q ps
whole at (with_place (tests k) q) ps = whole_when at k q ps
whole at choosing ps = whole_if at ps
whole at packing ps = Result.pack at (pairs_onto ps no_pairs)
whole at (saying v) ps = Result.literal at v

-- ---- their rows

-- what the row of a result holds, and the rows of its place
pub data LeadHeld (p : List ℕ) (d : ℕ) : Lead → (code operand payload : ℕ) → List ℕ → Type 0 where
  place_held
      : {u : PlaceUse} {q : Place} {rs : List ℕ} → PlaceRows p d q rs
      → LeadHeld p d (with_place u q) (use_code u) (use_operand u) 0 rs
  if_held : LeadHeld p d choosing 11 0 0 []
  pack_held : LeadHeld p d packing 17 0 0 []
  literal_held
      : {v : Value} {k : ℕ} → LiteralPayload p v k → number_bits v < 64
      → LeadHeld p d (saying v) (literal_code v) (number_bits v) k []

-- the name word of a result: where its name stands, or 0
abbrev pub NameWord : List ℕ → Bool → Bytes → ℕ → Type 0
NameWord p true n k = Refers p n k
NameWord p false n k = k ≡ 0

-- the rows of results that are being read, the latest first
pub data PartsBefore (p : List ℕ) (d : ℕ) (b : Bool) : Pairs → List ℕ → Type 0 where
  none_before : PartsBefore p d b no_pairs []
  part_before
      : {n : Bytes} {k : ℕ} {r : Result} {ps : Pairs} {rs qs : List ℕ} → PartsBefore p d b ps rs → NameWord p b n k
      → FormRows p d k r qs → PartsBefore p d b (pair n r ps) (rs ++ qs)

-- ---- a result before its place is read

-- a place must come, or none does
pub data Half : Type 0 where
  placing : PlaceUse → Half
  bare : Lead → Half

unfoldable pub after : Half → (at : ℕ) → Around → Want
after (placing u) at o = place_open (in_result at u o)
after (bare e) at o = next e no_pairs at o

-- what the row of such a result holds, of which those with a place have the lower codes
pub data HalfHeld (p : List ℕ) : Half → (code operand payload : ℕ) → Type 0 where
  placing_held : {u : PlaceUse} → use_code u < 11 → HalfHeld p (placing u) (use_code u) (use_operand u) 0
  bare_if : HalfHeld p (bare choosing) 11 0 0
  bare_pack : HalfHeld p (bare packing) 17 0 0
  bare_literal
      : {v : Value} {k : ℕ} → LiteralPayload p v k → number_bits v < 64 → 11 < literal_code v
      → HalfHeld p (bare (saying v)) (literal_code v) (number_bits v) k
