-- A scan runs over a left context: to the place where a value or a name may begin, or a test stops it before. Assumes
-- nothing.
use Rattle.std.specs.Prelude.{ℕ, ◌+◌, ◌≤◌, refl, Bool, true, ◌&&◌, length}
use Rattle.std.proofs.Common.{arith, le_refl, le_of_lt, ◌∙◌}
use Rattle.definitions.specs.Bytes.{Bytes}
use Rattle.definitions.specs.Value.{item, member, size}
use Rattle.definitions.specs.Json.{root, in_list, in_rec, Gap, State, put}
use Rattle.laws.specs.Tree.{no_trees, tree, Named, no_named, named, meaning, meaning_trees, meaning_named}
use Rattle.laws.specs.Causes.{Context, top, in_array, in_object, Before, BeforeName, begun}
use Rattle.laws.specs.JsonMoves.{Tests, scan_by}
use Rattle.laws.proofs.JsonContext.{opened, begun_named, count_array, count_object, count_value, count_member}
use Rattle.laws.proofs.JsonLengths.{structural_length, string_length, value_length}
use Rattle.laws.proofs.JsonRuns.{comma, mark_stop, Takes, takes_value, takes_item, Names, names_first}
use Rattle.laws.proofs.JsonRuns.{names_next, comma_after, comma_member, colon_name, ws_run, mark_run, name_run}
use Rattle.laws.proofs.JsonEnds.{Ends, arrives, Come, ends_from, ends_then, ends_at, ends_unless}
use Rattle.laws.proofs.JsonForward.{array_enter, object_enter, recount, value_forward}
use Rattle.laws.proofs.JsonLive.{start}

-- ---- the gap at a context

-- where a value may begin
unfoldable pub await : Context → Gap
await top = Gap.value root
await (in_array no_trees k) = Gap.first_item (opened k)
await (in_array (tree x ts) k) = Gap.value (opened (in_array (tree x ts) k))
await (in_object ns n k) = Gap.value (opened (in_object ns n k))

pub await_takes : (k : Context) → Takes (await k) (opened k)
unfolding await opened meaning
await_takes top = takes_value root
await_takes (in_array no_trees k) = takes_item (opened k)
await_takes (in_array (tree x ts) k) = takes_value (opened (in_array (tree x ts) k))
await_takes (in_object ns n k) = takes_value (opened (in_object ns n k))

-- where a name may begin behind these members
unfoldable pub await_name : Named → Context → Gap
await_name no_named k = Gap.first_name (opened k)
await_name (named n x ns) k = Gap.next_name (meaning_named (named n x ns)) (opened k)

pub await_names : (ns : Named) (k : Context) → Names (await_name ns k) (meaning_named ns) (opened k)
unfolding await_name meaning
await_names no_named k = names_first (opened k)
await_names (named n x ns) k = names_next (meaning_named (named n x ns)) (opened k)

-- ---- running there

comes_then
    : {c d : Bytes → Come} {u w : Bytes} {a : Come} {z : Bool} → (b : Bool) × Ends c u b a → length w ≤ length u
    → ((kept : Bytes) → Ends d w z (c kept)) → (b : Bool) × Ends d w b a
comes_then {z} (b, e) h on = (b && z, ends_then e h on)

module _ (j : Tests) where
  -- the scan of s comes to this gap at r with m values begun, or is refused before r
  abbrev pub Comes : (s : Bytes) (m : ℕ) (g : Gap) (r : Bytes) → Type 0
  Comes s m g r = (b : Bool) × Ends (λ kept. scan_by j m kept (State.gap g) r) r b (scan_by j 0 s start s)

  mutual
    unfolding await await_name opened begun meaning put

    pub before_comes : {s r : Bytes} {k : Context} → Before s k r → Comes s (begun k) (await k) r
    before_comes {s} (Before.start w) = (true, arrives s (ws_run j 0 s (Gap.value root) w))
    before_comes {r} (Before.first_value {k} f w) =
        comes_then (before_comes f) (le_of_lt (structural_length w))
        λ kept.
        array_enter j (await k) (opened k) (begun k) kept w (await_takes k) (le_refl (length r))
        (arrives kept (recount j (count_array k refl) (Gap.first_item (opened k)) kept r))
    before_comes {r} (Before.next_value {k} {ts} {x} f v w) =
        let c = in_array ts k in
        let vs = item (meaning x) (meaning_trees ts) in
        let g = Gap.value (in_list vs (opened k)) in
        comes_then (before_comes f) (omega (arith, value_length v, structural_length w))
        λ kept.
        ends_at (value_forward j v (mark_stop comma w) (await c) (opened c) (await_takes c) (begun c) kept)
        (le_of_lt (structural_length w))
        λ kept'.
        mark_run j (begun c + size (meaning x)) kept' (Gap.after_item vs (opened k)) g w (comma_after vs (opened k))
        ∙ recount j (count_value k ts x refl) g kept' r
    before_comes (Before.member_value {k} {ns} {n} {t} f a w) =
        let o = opened k in
        let ms = meaning_named ns in
        comes_then (name_comes f) (omega (arith, string_length a, structural_length w))
        λ kept.
        ends_from (name_run j (begun_named ns k) kept (await_name ns k) ms o a (await_names ns k))
        (ends_unless (j.twice n ms) 5 t t (omega (arith, string_length a, structural_length w))
        (mark_run j (begun_named ns k) t (Gap.colon ms n o) (Gap.value (in_rec ms n o)) w (colon_name ms n o)))

    pub name_comes
        : {s r : Bytes} {ns : Named} {k : Context} → BeforeName s ns k r → Comes s (begun_named ns k) (await_name ns k) r
    name_comes {r} (BeforeName.first_name {k} f w) =
        comes_then (before_comes f) (le_of_lt (structural_length w))
        λ kept.
        object_enter j (await k) (opened k) (begun k) kept w (await_takes k) (le_refl (length r))
        (arrives kept (recount j (count_object k refl) (Gap.first_name (opened k)) kept r))
    name_comes {r} (BeforeName.next_name {k} {ns} {n} {x} f v w) =
        let c = in_object ns n k in
        let ms = member n (meaning x) (meaning_named ns) in
        comes_then (before_comes f) (omega (arith, value_length v, structural_length w))
        λ kept.
        ends_at (value_forward j v (mark_stop comma w) (await c) (opened c) (await_takes c) (begun c) kept)
        (le_of_lt (structural_length w))
        λ kept'.
        mark_run j (begun c + size (meaning x)) kept' (Gap.after_member ms (opened k)) (Gap.next_name ms (opened k)) w
        (comma_member ms (opened k))
        ∙ recount j (count_member k ns n x refl) (Gap.next_name ms (opened k)) kept' r
