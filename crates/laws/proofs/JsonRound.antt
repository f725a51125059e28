-- Writing values as plain JSON and reading them back: what was read is good, its plain text is no longer than the document
-- and reads back as the same value. Assumes nothing.
use Rattle.std.specs.Prelude.{◌≤◌, ◌≡◌, true, [], length}
use Rattle.std.proofs.Common.{arith, sym, ◌∙◌, ap, subst, append-nil}
use Rattle.definitions.specs.declared.Limits.{Limits}
use Rattle.definitions.specs.Bytes.{Bytes}
use Rattle.definitions.specs.Outcome.{ok}
use Rattle.definitions.specs.Value.{Value, size, nesting}
use Rattle.definitions.specs.Json.{read_json}
use Rattle.definitions.specs.Plain.{plain}
use Rattle.laws.specs.Distinct.{distinct}
use Rattle.laws.specs.Tree.{Tree, meaning, NumbersFit, Fits}
use Rattle.laws.specs.Rfc8259.{ws_none, value, JSONText, json_text}
use Rattle.laws.specs.Good.{GoodValue}
use Rattle.laws.proofs.JsonAdequate.{json_accepted_to, json_accepted_from}
use Rattle.laws.proofs.RoundDerives.{value_derives}
use Rattle.laws.proofs.RoundTrees.{value_good, value_length, ws_length}

-- ---- reading back

-- the plain text of a good value is a JSON text of a tree that means the value
pub plain_derives
    : (v : Value) → GoodValue v → (x : Tree) × JSONText (plain v) x × (meaning x ≡ v) × NumbersFit x
plain_derives v g =
    let (x, d, e, f) = value_derives v g [] in
    (x, json_text ws_none (subst (λ s. value s x []) (append-nil (plain v)) d) ws_none, e, f)

-- a good value within the limits reads back from its plain text
pub plain_reads_back
    : (l : Limits) (v : Value) → GoodValue v → distinct v ≡ true → size v ≤ l.values → nesting v ≤ l.nesting
    → read_json l (plain v) ≡ ok v
plain_reads_back l v g a h k =
    let (x, d, e, f) = plain_derives v g in
    let fits : Fits l x =
    record {
      numbers = f;
      names = ap distinct e ∙ a;
      values = subst (λ w. size w ≤ l.values) (sym e) h;
      depth = subst (λ w. nesting w ≤ l.nesting) (sym e) k;
    } in
    json_accepted_from l (plain v) x d fits ∙ ap ok e

-- ---- what was read

tree_good : {s : Bytes} {x : Tree} → JSONText s x → NumbersFit x → GoodValue (meaning x)
tree_good (json_text a d b) f = value_good d f

tree_length : {s : Bytes} {x : Tree} → JSONText s x → NumbersFit x → length (plain (meaning x)) ≤ length s
tree_length (json_text a d b) f =
    let h = ws_length a in
    let i = value_length d f in
    omega arith

-- a value that was read is good
pub json_read_good : (l : Limits) (s : Bytes) (v : Value) → read_json l s ≡ ok v → GoodValue v
json_read_good l s v e =
    let (x, d, f, m) = json_accepted_to l s v e in
    subst GoodValue m (tree_good d f.numbers)

-- its plain text is no longer than the document
pub plain_not_longer : (l : Limits) (s : Bytes) (v : Value) → read_json l s ≡ ok v → length (plain v) ≤ length s
plain_not_longer l s v e =
    let (x, d, f, m) = json_accepted_to l s v e in
    subst (λ w. length (plain w) ≤ length s) m (tree_length d f.numbers)

-- and reads back as the same value
pub plain_idempotent : (l : Limits) (s : Bytes) (v : Value) → read_json l s ≡ ok v → read_json l (plain v) ≡ ok v
plain_idempotent l s v e =
    let (x, d, f, m) = json_accepted_to l s v e in
    plain_reads_back l v (json_read_good l s v e) (subst (λ w. distinct w ≡ true) m f.names)
    (subst (λ w. size w ≤ l.values) m f.values) (subst (λ w. nesting w ≤ l.nesting) m f.depth)
