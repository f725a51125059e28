-- What is needed to say that reading goes forward: which trees pass the tests of a scan; a scan that comes to a place or
-- is refused before it; elements and members latest first and in order. Assumes nothing.
use Rattle.std.specs.Prelude.{ℕ, suc, ◌+◌, ◌<◌, ◌≤◌, ◌≡◌, refl, Bool, true, false, not, ◌&&◌, length}
use Rattle.std.proofs.Common.{arith, sym, ◌∙◌, ap}
use Rattle.std.proofs.lemmas.Bool.{false≢true}
use Rattle.definitions.specs.Bytes.{Bytes}
use Rattle.definitions.specs.Outcome.{Outcome, refused}
use Rattle.definitions.specs.Value.{Value, Items, no_items, item, items_onto, Members, no_members, member, members_onto, size}
use Rattle.definitions.specs.Json.{Open, in_list, in_rec}
use Rattle.laws.specs.Tree.{Tree, Trees, no_trees, tree, Named, no_named, named, meaning}
use Rattle.laws.specs.JsonMoves.{Tests}

-- ---- which trees pass the tests

module _ (j : Tests) where
  unfoldable mutual
    -- the tree, read where n values are begun and this is open
    pub fit : Tree → ℕ → Open → Bool
    fit Tree.null n o = not (j.crowded (suc n) o)
    fit (Tree.bool b) n o = not (j.crowded (suc n) o)
    fit (Tree.number d) n o = not (j.over d) && not (j.crowded (suc n) o)
    fit (Tree.text t) n o = not (j.crowded (suc n) o)
    fit (Tree.list ts) n o = not (j.crowded (suc n) o) && fit_trees ts no_items (suc n) o
    fit (Tree.rec ns) n o = not (j.crowded (suc n) o) && fit_named ns no_members (suc n) o

    -- values of an array, behind these
    pub fit_trees : Trees → Items → ℕ → Open → Bool
    fit_trees no_trees vs n o = true
    fit_trees (tree x ts) vs n o = fit x n (in_list vs o) && fit_trees ts (item (meaning x) vs) (n + size (meaning x)) o

    -- members of an object, behind these
    pub fit_named : Named → Members → ℕ → Open → Bool
    fit_named no_named ms n o = true
    fit_named (named m x ns) ms n o =
        (not (j.twice m ms) && fit x n (in_rec ms m o)) && fit_named ns (member m (meaning x) ms) (n + size (meaning x)) o

-- ---- going on or stopping

-- a comes to c, or is a refusal before u
pub data Ends (c : Bytes → Outcome Bytes Value) (u : Bytes) : Bool → Outcome Bytes Value → Type 0 where
  arrives : {a : Outcome Bytes Value} (kept : Bytes) → a ≡ c kept → Ends c u true a
  halts : {a : Outcome Bytes Value} (m : ℕ) (r : Bytes) → a ≡ refused m r → length u < length r → Ends c u false a

-- what a scan comes to
abbrev pub Come : Type 0
Come = Outcome Bytes Value

pub ends_from : {c : Bytes → Come} {u : Bytes} {b : Bool} {a a' : Come} → a ≡ a' → Ends c u b a' → Ends c u b a
ends_from e (arrives kept f) = arrives kept (e ∙ f)
ends_from e (halts m r f h) = halts m r (e ∙ f) h

pub ends_then
    : {c d : Bytes → Come} {u w : Bytes} {b b' : Bool} {a : Come} → Ends c u b a → length w ≤ length u
    → ((kept : Bytes) → Ends d w b' (c kept)) → Ends d w (b && b') a
ends_then (arrives kept e) h on = ends_from e (on kept)
ends_then (halts m r e g) h on = halts m r e (omega arith)

pub ends_at
    : {c d : Bytes → Come} {u w : Bytes} {b : Bool} {a : Come} → Ends c u b a → length w ≤ length u
    → ((kept : Bytes) → c kept ≡ d kept) → Ends d w b a
ends_at (arrives kept e) h f = arrives kept (e ∙ f kept)
ends_at (halts m r e g) h f = halts m r e (omega arith)

pub ends_arrive
    : {c : Bytes → Come} {u : Bytes} {b : Bool} {a : Come} → Ends c u b a → b ≡ true → (kept : Bytes) × (a ≡ c kept)
ends_arrive (arrives kept e) h = (kept, e)
ends_arrive (halts m r e g) h = absurd (false≢true h)

-- a test that may stop at r
pub ends_if
    : {c : Bytes → Come} {u : Bytes} {b : Bool} {a : Come} (f : Bool) (m : ℕ) (r : Bytes) → length u < length r → Ends c u b a
    → Ends c u (not f && b) (elim f [ true ↦ refused m r | false ↦ a ])
ends_if true m r h e = halts m r refl h
ends_if false m r h e = e

pub ends_unless
    : {c : Bytes → Come} {u : Bytes} {a : Come} (f : Bool) (m : ℕ) (kept r : Bytes) → length u < length r → a ≡ c kept
    → Ends c u (not f) (elim f [ true ↦ refused m r | false ↦ a ])
ends_unless true m kept r h e = halts m r refl h
ends_unless false m kept r h e = arrives kept e

-- ---- order of elements and members

items_onto_twice : (a b c : Items) → items_onto (items_onto a b) c ≡ items_onto b (items_onto (items_onto a no_items) c)
unfolding items_onto
items_onto_twice no_items b c = refl
items_onto_twice (item v a) b c =
    items_onto_twice a (item v b) c ∙ ap (items_onto b) (sym (items_onto_twice a (item v no_items) c))

items_back : (a : Items) → items_onto (items_onto a no_items) no_items ≡ a
unfolding items_onto
items_back no_items = refl
items_back (item v a) = items_onto_twice a (item v no_items) no_items ∙ ap (item v) (items_back a)

-- the elements behind the first, latest first, and then in order
pub items_in_order : (v : Value) (a : Items) → items_onto (items_onto a (item v no_items)) no_items ≡ item v a
unfolding items_onto
items_in_order v a = items_onto_twice a (item v no_items) no_items ∙ ap (item v) (items_back a)

members_onto_twice
    : (a b c : Members) → members_onto (members_onto a b) c ≡ members_onto b (members_onto (members_onto a no_members) c)
unfolding members_onto
members_onto_twice no_members b c = refl
members_onto_twice (member n v a) b c =
    members_onto_twice a (member n v b) c ∙ ap (members_onto b) (sym (members_onto_twice a (member n v no_members) c))

members_back : (a : Members) → members_onto (members_onto a no_members) no_members ≡ a
unfolding members_onto
members_back no_members = refl
members_back (member n v a) = members_onto_twice a (member n v no_members) no_members ∙ ap (member n v) (members_back a)

pub members_in_order
    : (n : Bytes) (v : Value) (a : Members) → members_onto (members_onto a (member n v no_members)) no_members ≡ member n v a
unfolding members_onto
members_in_order n v a = members_onto_twice a (member n v no_members) no_members ∙ ap (member n v) (members_back a)
