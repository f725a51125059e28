-- A tree passes the tests of reading exactly where it keeps the paper's limits. Assumes nothing.
use Prim.Native.Nat.{ℕ, suc, ◌+◌, ◌≤◌, ◌<◌, compare, Ordering}
use native.Mathlib.Omega.{arith}
use Rattle.std.specs.Prelude.{◌≡◌, refl, Bool, true, not, ◌&&◌, [], ◌∷◌, eqb}
use Rattle.std.proofs.Common.{sym, ◌∙◌, ap, ap₂}
use Rattle.std.proofs.Math.Bool.{false, ◌||◌}
use Rattle.std.proofs.Math.Dec.{ltb, compare_is_eq}
use Rattle.definitions.specs.declared.Limits.{Limits}
use Rattle.definitions.specs.Bytes.{Bytes, order, same}
use Rattle.definitions.specs.Number.{beyond}
use Rattle.definitions.specs.Value.{Value, Items, no_items, item, Members, no_members, member, has_name}
use Rattle.definitions.specs.Value.{size, size_items, size_members, nesting, nesting_items, nesting_members}
use Rattle.definitions.specs.Json.{Open, root, in_list, in_rec, depth, full}
use Rattle.laws.specs.Bools.{and_left, and_right, and_intro, or_false_left, or_false_right, not_true, not_false, bool_eq}
use Rattle.laws.specs.Distinct.{distinct, distinct_items, distinct_members}
use Rattle.laws.specs.Tree.{Tree, Trees, no_trees, tree, Named, no_named, named, meaning}
use Rattle.laws.specs.Tree.{meaning_trees, meaning_named, NumbersFit, TreesFit, NamedFit, Fits}
use Rattle.laws.specs.Ranges.{leb_gt, gt_leb, eqb_eq, eq-eqb}
use Rattle.laws.specs.JsonMoves.{limited}
use Rattle.laws.proofs.JsonEnds.{fit, fit_trees, fit_named}

-- ---- names compared

same_cons : (x y : ℕ) (xs ys : Bytes) → same (x ∷ xs) (y ∷ ys) ≡ (eqb x y && same xs ys)
unfolding same order
same_cons x y xs ys = at (compare x y)
  where
    at
        : (o : Ordering)
        → compare_is_eq (elim o [ Ordering.lt ↦ Ordering.lt | Ordering.eq ↦ order xs ys | Ordering.gt ↦ Ordering.gt ]) ≡
        (compare_is_eq o && compare_is_eq (order xs ys))
    at Ordering.lt = refl
    at Ordering.eq = refl
    at Ordering.gt = refl

eqb_swap : (x y : ℕ) → eqb x y ≡ true → eqb y x ≡ true
eqb_swap x y e = eq-eqb {m = y} {n = x} (sym (eqb_eq {m = x} {n = y} e))

same_sym : (xs ys : Bytes) → same xs ys ≡ same ys xs
unfolding same order
same_sym [] [] = refl
same_sym [] (y ∷ ys) = refl
same_sym (x ∷ xs) [] = refl
same_sym (x ∷ xs) (y ∷ ys) =
    same_cons x y xs ys ∙ ap₂ ◌&&◌ (bool_eq (eqb x y) (eqb y x) (eqb_swap x y) (eqb_swap y x)) (same_sym xs ys)
    ∙ sym (same_cons y x ys xs)

-- no name of the first is among those of the second
apart : Members → Members → Bool
apart no_members ms = true
apart (member n v ns) ms = not (has_name n ms) && apart ns ms

apart_none : (ns : Members) → apart ns no_members ≡ true
unfolding apart has_name
apart_none no_members = refl
apart_none (member n v ns) = apart_none ns

swap : (a b c d : Bool) → (not (a || b) && (not c && d)) ≡ (not (a || c) && (not b && d))
swap true b c d = refl
swap false true true d = refl
swap false true false d = refl
swap false false true d = refl
swap false false false d = refl

apart_member
    : (ns : Members) (m : Bytes) (v : Value) (ms : Members) → apart ns (member m v ms) ≡ (not (has_name m ns) && apart ns ms)
unfolding apart has_name
apart_member no_members m v ms = refl
apart_member (member k w ns) m v ms =
    ap (λ (z : Bool). not (same k m || has_name k ms) && z) (apart_member ns m v ms)
    ∙ swap (same k m) (has_name k ms) (has_name m ns) (apart ns ms)
    ∙ ap (λ (z : Bool). not (z || has_name m ns) && (not (has_name k ms) && apart ns ms)) (same_sym k m)

-- these members have distinct names at all depths, none of them among those before
distinct_behind : Members → Members → Bool
distinct_behind us ms = distinct_members us && apart us ms

-- one more member: as reading asks, and as `distinct` does
member_to
    : (us : Members) (a : Bytes) (v : Value) (ms : Members) → not (has_name a ms) ≡ true → distinct v ≡ true
    → distinct_behind us (member a v ms) ≡ true → distinct_behind (member a v us) ms ≡ true
unfolding distinct_behind distinct apart
member_to us a v ms f g h =
    let d = distinct_members us in
    let new = not (has_name a us) in
    let k : (new && apart us ms) ≡ true = sym (apart_member us a v ms) ∙ and_right d (apart us (member a v ms)) h in
    let names = and_intro (and_left new (apart us ms) k) g in
    and_intro (and_intro names (and_left d (apart us (member a v ms)) h)) (and_intro f (and_right new (apart us ms) k))

member_from
    : (us : Members) (a : Bytes) (v : Value) (ms : Members) → distinct_behind (member a v us) ms ≡ true
    → (not (has_name a ms) ≡ true) × (distinct v ≡ true) × (distinct_behind us (member a v ms) ≡ true)
unfolding distinct_behind distinct apart
member_from us a v ms h =
    let d = distinct_members us in
    let new = not (has_name a us) in
    let old = not (has_name a ms) in
    let f = and_left (new && distinct v && d) (old && apart us ms) h in
    let g = and_right (new && distinct v && d) (old && apart us ms) h in
    let k = and_left (new && distinct v) d f in
    let names = and_intro (and_left new (distinct v) k) (and_right old (apart us ms) g) in (
      and_left old (apart us ms) g,
      and_right new (distinct v) k,
      and_intro (and_right (new && distinct v) d f) (apart_member us a v ms ∙ names),
    )

-- ---- room for one more value

module _ (l : Limits) where
  room_to : (n : ℕ) (o : Open) → not (full l (suc n) o) ≡ true → (suc n ≤ l.values) × (suc (depth o) ≤ l.nesting)
  unfolding full
  room_to n o e =
      let many = ltb l.values (suc n) in
      let deep = ltb l.nesting (suc (depth o)) in
      let h : (many || deep) ≡ false = not_true (full l (suc n) o) e in
      let v : suc n < suc l.values = leb_gt (or_false_left many deep h) in
      let d : suc (depth o) < suc l.nesting = leb_gt (or_false_right many deep h) in
      (omega arith, omega arith)

  room_from : (n : ℕ) (o : Open) → suc n ≤ l.values → suc (depth o) ≤ l.nesting → not (full l (suc n) o) ≡ true
  unfolding full
  room_from n o h g =
      let v : ltb l.values (suc n) ≡ false = gt_leb {m = suc l.values} {n = suc n} (omega arith) in
      let d : ltb l.nesting (suc (depth o)) ≡ false = gt_leb {m = suc l.nesting} {n = suc (depth o)} (omega arith) in
      not_false {a = full l (suc n) o} (ap₂ ◌||◌ v d)

  -- ---- a tree that passes keeps the limits

  -- at n values begun, so deep
  record Keeps (numbers_fit : Type 0) (distinct_names : Bool) (sized deep n d : ℕ) : Type 0 where
    numbers : numbers_fit
    names : distinct_names ≡ true
    values : n + sized ≤ l.values
    depth : d + deep ≤ l.nesting

  abbrev KeepsTree : Tree → ℕ → ℕ → Type 0
  KeepsTree x n d = Keeps (NumbersFit x) (distinct (meaning x)) (size (meaning x)) (nesting (meaning x)) n d

  abbrev KeepsTrees : Trees → ℕ → ℕ → Type 0
  KeepsTrees ts n d =
      let vs = meaning_trees ts in
      Keeps (TreesFit ts) (distinct_items vs) (size_items vs) (nesting_items vs) n d

  -- behind these members
  abbrev KeepsNamed : Named → Members → ℕ → ℕ → Type 0
  KeepsNamed ns ms n d =
      let us = meaning_named ns in
      Keeps (NamedFit ns) (distinct_behind us ms) (size_members us) (nesting_members us) n d

  scalar_to : {A : Type 0} (n : ℕ) (o : Open) → A → not (full l (suc n) o) ≡ true → Keeps A true 1 1 n (depth o)
  scalar_to n o a e =
      let (h, g) = room_to n o e in
      record { numbers = a; names = refl; values = omega arith; depth = omega arith }

  mutual
    unfolding fit limited meaning size nesting distinct depth apart distinct_behind

    fit_to : (x : Tree) (n : ℕ) (o : Open) → fit (limited l) x n o ≡ true → KeepsTree x n (depth o)
    fit_to Tree.null n o e = scalar_to n o NumbersFit.null_fits e
    fit_to (Tree.bool b) n o e = scalar_to n o NumbersFit.bool_fits e
    fit_to (Tree.number d) n o e =
        scalar_to n o (NumbersFit.number_fits (not_true (beyond d) (and_left (not (beyond d)) (not (full l (suc n) o)) e)))
        (and_right (not (beyond d)) (not (full l (suc n) o)) e)
    fit_to (Tree.text t) n o e = scalar_to n o NumbersFit.text_fits e
    fit_to (Tree.list ts) n o e =
        let room = not (full l (suc n) o) in
        let rest = fit_trees (limited l) ts no_items (suc n) o in
        let (h, g) = room_to n o (and_left room rest e) in
        let k = trees_to ts no_items (suc n) o h g (and_right room rest e) in
        record {
          numbers = NumbersFit.list_fits k.numbers;
          names = k.names;
          values = omega (arith, k.values);
          depth = omega (arith, k.depth);
        }
    fit_to (Tree.rec ns) n o e =
        let room = not (full l (suc n) o) in
        let rest = fit_named (limited l) ns no_members (suc n) o in
        let (h, g) = room_to n o (and_left room rest e) in
        let k = named_to ns no_members (suc n) o h g (and_right room rest e) in
        record {
          numbers = NumbersFit.rec_fits k.numbers;
          names = and_left (distinct_members (meaning_named ns)) (apart (meaning_named ns) no_members) k.names;
          values = omega (arith, k.values);
          depth = omega (arith, k.depth);
        }

    trees_to
        : (ts : Trees) (vs : Items) (n : ℕ) (o : Open) → n ≤ l.values → suc (depth o) ≤ l.nesting
        → fit_trees (limited l) ts vs n o ≡ true → KeepsTrees ts n (suc (depth o))
    trees_to no_trees vs n o h g e =
        record { numbers = TreesFit.no_trees_fit; names = refl; values = omega arith; depth = omega arith }
    trees_to (tree x ts) vs n o h g e =
        let one = fit (limited l) x n (in_list vs o) in
        let rest = fit_trees (limited l) ts (item (meaning x) vs) (n + size (meaning x)) o in
        let k = fit_to x n (in_list vs o) (and_left one rest e) in
        let m = trees_to ts (item (meaning x) vs) (n + size (meaning x)) o k.values g (and_right one rest e) in
        record {
          numbers = TreesFit.tree_fits k.numbers m.numbers;
          names = and_intro k.names m.names;
          values = omega (arith, m.values);
          depth = omega (arith, k.depth, m.depth);
        }

    named_to
        : (ns : Named) (ms : Members) (n : ℕ) (o : Open) → n ≤ l.values → suc (depth o) ≤ l.nesting
        → fit_named (limited l) ns ms n o ≡ true → KeepsNamed ns ms n (suc (depth o))
    named_to no_named ms n o h g e =
        record { numbers = NamedFit.no_named_fit; names = refl; values = omega arith; depth = omega arith }
    named_to (named a x ns) ms n o h g e =
        let fresh = not (has_name a ms) in
        let one = fit (limited l) x n (in_rec ms a o) in
        let rest = fit_named (limited l) ns (member a (meaning x) ms) (n + size (meaning x)) o in
        let f = and_left (fresh && one) rest e in
        let k = fit_to x n (in_rec ms a o) (and_right fresh one f) in
        let later = and_right (fresh && one) rest e in
        let m = named_to ns (member a (meaning x) ms) (n + size (meaning x)) o k.values g later in
        record {
          numbers = NamedFit.named_fits k.numbers m.numbers;
          names = member_to (meaning_named ns) a (meaning x) ms (and_left fresh one f) k.names m.names;
          values = omega (arith, m.values);
          depth = omega (arith, k.depth, m.depth);
        }

  -- ---- a tree that keeps the limits passes

  scalar_from : (n : ℕ) (o : Open) → n + 1 ≤ l.values → depth o + 1 ≤ l.nesting → not (full l (suc n) o) ≡ true
  scalar_from n o h g =
      let h' : suc n ≤ l.values = omega arith in
      let g' : suc (depth o) ≤ l.nesting = omega arith in
      room_from n o h' g'

  mutual
    unfolding fit limited meaning size nesting distinct depth apart distinct_behind

    fit_from
        : (x : Tree) (n : ℕ) (o : Open) → NumbersFit x → distinct (meaning x) ≡ true → n + size (meaning x) ≤ l.values
        → depth o + nesting (meaning x) ≤ l.nesting → fit (limited l) x n o ≡ true
    fit_from Tree.null n o f e h g = scalar_from n o h g
    fit_from (Tree.bool b) n o f e h g = scalar_from n o h g
    fit_from (Tree.number d) n o (NumbersFit.number_fits f) e h g = and_intro (not_false f) (scalar_from n o h g)
    fit_from (Tree.text t) n o f e h g = scalar_from n o h g
    fit_from (Tree.list ts) n o (NumbersFit.list_fits f) e h g =
        let h' : suc n ≤ l.values = omega arith in
        let g' : suc (depth o) ≤ l.nesting = omega arith in
        and_intro (room_from n o h' g') (trees_from ts no_items (suc n) o f e (omega arith) (omega arith))
    fit_from (Tree.rec ns) n o (NumbersFit.rec_fits f) e h g =
        let h' : suc n ≤ l.values = omega arith in
        let g' : suc (depth o) ≤ l.nesting = omega arith in
        and_intro (room_from n o h' g')
        (named_from ns no_members (suc n) o f (and_intro e (apart_none (meaning_named ns))) (omega arith) (omega arith))

    trees_from
        : (ts : Trees) (vs : Items) (n : ℕ) (o : Open) → TreesFit ts → distinct_items (meaning_trees ts) ≡ true
        → n + size_items (meaning_trees ts) ≤ l.values → suc (depth o) + nesting_items (meaning_trees ts) ≤ l.nesting
        → fit_trees (limited l) ts vs n o ≡ true
    trees_from no_trees vs n o f e h g = refl
    trees_from (tree x ts) vs n o (TreesFit.tree_fits f fs) e h g =
        let one = distinct (meaning x) in
        let rest = distinct_items (meaning_trees ts) in
        and_intro (fit_from x n (in_list vs o) f (and_left one rest e) (omega arith) (omega arith))
        (trees_from ts (item (meaning x) vs) (n + size (meaning x)) o fs (and_right one rest e) (omega arith) (omega arith))

    named_from
        : (ns : Named) (ms : Members) (n : ℕ) (o : Open) → NamedFit ns → distinct_behind (meaning_named ns) ms ≡ true
        → n + size_members (meaning_named ns) ≤ l.values → suc (depth o) + nesting_members (meaning_named ns) ≤ l.nesting
        → fit_named (limited l) ns ms n o ≡ true
    named_from no_named ms n o f e h g = refl
    named_from (named a x ns) ms n o (NamedFit.named_fits f fs) e h g =
        let (e₁, e₂, e₃) = member_from (meaning_named ns) a (meaning x) ms e in
        and_intro (and_intro e₁ (fit_from x n (in_rec ms a o) f e₂ (omega arith) (omega arith)))
        (named_from ns (member a (meaning x) ms) (n + size (meaning x)) o fs e₃ (omega arith) (omega arith))

  -- ---- a whole text

  pub fit_fits : (x : Tree) → fit (limited l) x 0 root ≡ true → Fits l x
  unfolding depth
  fit_fits x e =
      let k = fit_to x 0 root e in
      record { numbers = k.numbers; names = k.names; values = omega (arith, k.values); depth = omega (arith, k.depth) }

  pub fits_fit : (x : Tree) → Fits l x → fit (limited l) x 0 root ≡ true
  unfolding depth
  fits_fit x f = fit_from x 0 root f.numbers f.names (omega (arith, f.values)) (omega (arith, f.depth))
