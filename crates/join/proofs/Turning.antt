-- One turn of joining members: what its function asks and answers. Assumes nothing.
use Prim.Native.Nat.{ℕ, ◌+◌, ◌*◌, ◌≤◌, ◌<◌}
use native.Mathlib.Omega.{arith}
use mathlib.Core.Path.{◌≡◌, refl, sym, ap, subst}
use mathlib.Core.List.{List, ◌∷◌, ◌++◌}
use lib.ListN.{length, get_or, take, drop}
use Rattle.definitions.specs.Bytes.{Bytes}
use Rattle.definitions.specs.Shape.{Shape, Fields, field, forms, levels}
use Rattle.definitions.specs.Join.{with_null, join}
use Rattle.laws.specs.Fields.{ascending_first}
use Rattle.laws.specs.FieldsPut.{forms_with_null}
use Rattle.std.specs.declared.cmp.Ordering.{Ordering}
use Rattle.std.specs.declared.cmp.Ordering.TheVariants.{Less, Equal, Greater}
use Rattle.nodes.specs.Nodes.{Refers}
use Rattle.shapes.specs.Shapes.{ShapeRows}
use Rattle.shapes.specs.ShapesLaws.{stands_within, forms_some, fields_first, fields_end}
use Rattle.std.specs.Prelude.{Option, Some, None}
use Rattle.join.specs.Replacing.{Put, Puts}
use Rattle.join.specs.ReplacingLaws.{put_map}
use Rattle.join.specs.Joining.{Walks, Turn, turn_first, turn_second, turn_both, Next, MemberRows}
use Rattle.join.specs.Joining.{Puttable, PutsNull, Joins, Joinable, JoinsTo, null_head}
use Rattle.join.proofs.Rows.{nulled}
use Rattle.join.proofs.Members.{head_small}

-- a member's rows under its name
named : {p : List ℕ} {n : Bytes} {k : ℕ} {u : Shape} → Refers p n k → (rows : List ℕ) → ShapeRows p k u rows → MemberRows p n u rows
named {k} f rows e = record { name = k; refers = f; encoded = e }

puts_named
    : (shapes shapes' : List ℕ) (used row old new new' : ℕ) {p : List ℕ} {n : Bytes} {k : ℕ} (u : Shape) (r : Option ℕ) → Refers p n k → new ≡ new'
    → Puts shapes shapes' used row old new (ShapeRows p k u) r → Puts shapes shapes' used row old new' (MemberRows p n u) r
puts_named shapes shapes' used row old new new' u (Some words) f e h = put_map (named f) h
puts_named shapes shapes' used row old new new' u None f e h = record { over = omega (arith, h.over); same = h.same }

module _ {shapes second pool p : List ℕ} {used row end other to left : ℕ} where
  -- ---- a member of the first alone

  ours_within
      : {n : Bytes} {a : Shape} {fs gs : Fields} → Walks shapes second pool p used row end other to left (field n a fs) gs → row + 2 * forms a ≤ used
  unfolding forms
  ours_within w = omega (arith, fields_end w.walk.ours, w.within)

  pub less_asks
      : {o : Ordering} {fs gs : Fields} → o ≡ Less → Walks shapes second pool p used row end other to left fs gs → Next o fs gs → length shapes ≤ 65536
      → (row < length shapes) × (get_or shapes row 0 + 1 < 18446744073709551616)
  less_asks {fs} {gs} e w x l = go (subst (λ (z : Ordering). Turn z fs gs x.name x.shape x.old x.ours x.theirs) e x.turn) w
    where
      go
          : {fs gs : Fields} {n : Bytes} {u : Shape} {old : ℕ} {fs' gs' : Fields} → Turn Less fs gs n u old fs' gs'
          → Walks shapes second pool p used row end other to left fs gs → (row < length shapes) × (get_or shapes row 0 + 1 < 18446744073709551616)
      go (turn_first {a} h) w =
          let s = (fields_first w.walk.ours).2 in
          (omega (arith, stands_within s, forms_some a), omega (arith, head_small s l))

  pub less_turned
      : {o : Ordering} {fs gs : Fields} {n : Bytes} {u : Shape} {old : ℕ} {fs' gs' : Fields} {shapes' : List ℕ} → o ≡ Less
      → shapes' ≡ take row shapes ++ null_head (get_or shapes row 0) ∷ drop (row + 1) shapes → length shapes' ≡ length shapes
      → Walks shapes second pool p used row end other to left fs gs → Turn o fs gs n u old fs' gs'
      → Put shapes shapes' used 0 row old (MemberRows p n u)
  less_turned {fs = fs₀} {gs = gs₀} {n = n₀} {u = u₀} {old = old₀} {fs' = fs₁} {gs' = gs₁} {shapes'} e f l w t =
      go (subst (λ (z : Ordering). Turn z fs₀ gs₀ n₀ u₀ old₀ fs₁ gs₁) e t) w
    where
      go
          : {fs gs : Fields} {n : Bytes} {u : Shape} {old : ℕ} {fs' gs' : Fields} → Turn Less fs gs n u old fs' gs'
          → Walks shapes second pool p used row end other to left fs gs → Put shapes shapes' used 0 row old (MemberRows p n u)
      go (turn_first h) w =
          let s = fields_first w.walk.ours in
          put_map (named s.1) (nulled s.2 (ours_within w) w.used_within f l)

  -- ---- a member of the second alone

  pub greater_asks
      : {o : Ordering} {fs gs : Fields} → o ≡ Greater → Walks shapes second pool p used row end other to left fs gs → Next o fs gs → length shapes ≤ 65536
      → Puttable shapes second used row other
  greater_asks {fs} {gs} e w x l = go (subst (λ (z : Ordering). Turn z fs gs x.name x.shape x.old x.ours x.theirs) e x.turn) w
    where
      go
          : {fs gs : Fields} {n : Bytes} {u : Shape} {old : ℕ} {fs' gs' : Fields} → Turn Greater fs gs n u old fs' gs'
          → Walks shapes second pool p used row end other to left fs gs → Puttable shapes second used row other
      go (turn_second {b} h) w =
          let s = fields_first w.walk.theirs in
          record {
            p = p;
            name = s.0;
            shape = b;
            stands = s.2;
            before = omega (arith, fields_end w.walk.ours, w.within);
            used_within = w.used_within;
            small = l;
          }

  pub greater_turned
      : {o : Ordering} {fs gs : Fields} {n : Bytes} {u : Shape} {old : ℕ} {fs' gs' : Fields} (shapes' : List ℕ) (r : Option ℕ) → o ≡ Greater
      → PutsNull shapes shapes' second used row other r
      → Walks shapes second pool p used row end other to left fs gs → Turn o fs gs n u old fs' gs'
      → Puts shapes shapes' used row old (2 * forms u) (MemberRows p n u) r
  greater_turned {fs = fs₀} {gs = gs₀} {n = n₀} {u = u₀} {old = old₀} {fs' = fs₁} {gs' = gs₁} shapes' r e f w t =
      go (subst (λ (z : Ordering). Turn z fs₀ gs₀ n₀ u₀ old₀ fs₁ gs₁) e t) w
    where
      go
          : {fs gs : Fields} {n : Bytes} {u : Shape} {old : ℕ} {fs' gs' : Fields} → Turn Greater fs gs n u old fs' gs'
          → Walks shapes second pool p used row end other to left fs gs → Puts shapes shapes' used row old (2 * forms u) (MemberRows p n u) r
      go (turn_second {b} h) w =
          let s = fields_first w.walk.theirs in
          puts_named shapes shapes' used row 0 (2 * forms b) (2 * forms (with_null b)) (with_null b) r s.1 (ap (λ (x : ℕ). 2 * x) (sym (forms_with_null b)))
          (f p s.0 b s.2)

  -- ---- a member of both

  equal_joins
      : {n : Bytes} {a b : Shape} {fs gs : Fields} (w : Walks shapes second pool p used row end other to left (field n a fs) (field n b gs))
      → Joins shapes second pool p used row (fields_first w.walk.ours).0 other (fields_first w.walk.theirs).0 left a b
  unfolding levels
  equal_joins {n} {a} {b} {fs} {gs} w =
      record {
        both = record {
          ours = (fields_first w.walk.ours).2;
          theirs = (fields_first w.walk.theirs).2;
          within = ours_within w;
          used_within = w.used_within;
        };
        ours_ascend = ascending_first n a fs w.walk.ours_ascend;
        theirs_ascend = ascending_first n b gs w.walk.theirs_ascend;
        nests = omega (arith, w.nests);
        pooled = w.walk.pooled;
      }

  pub equal_asks
      : {o : Ordering} {fs gs : Fields} → o ≡ Equal → Walks shapes second pool p used row end other to left fs gs → Next o fs gs → length shapes ≤ 65536
      → Joinable shapes second pool used row other left
  equal_asks {fs} {gs} e w x l = go (subst (λ (z : Ordering). Turn z fs gs x.name x.shape x.old x.ours x.theirs) e x.turn) w
    where
      go
          : {fs gs : Fields} {n : Bytes} {u : Shape} {old : ℕ} {fs' gs' : Fields} → Turn Equal fs gs n u old fs' gs'
          → Walks shapes second pool p used row end other to left fs gs → Joinable shapes second pool used row other left
      go (turn_both {n} {a} {b}) w =
          record {
            p = p;
            name = (fields_first w.walk.ours).0;
            other_name = (fields_first w.walk.theirs).0;
            ours = a;
            theirs = b;
            joins = equal_joins w;
            small = l;
          }

  pub equal_turned
      : {o : Ordering} {fs gs : Fields} {n : Bytes} {u : Shape} {old : ℕ} {fs' gs' : Fields} (shapes' : List ℕ) (r : Option ℕ) → o ≡ Equal
      → JoinsTo join shapes shapes' second pool used row other left r
      → Walks shapes second pool p used row end other to left fs gs → Turn o fs gs n u old fs' gs'
      → Puts shapes shapes' used row old (2 * forms u) (MemberRows p n u) r
  equal_turned {fs = fs₀} {gs = gs₀} {n = n₀} {u = u₀} {old = old₀} {fs' = fs₁} {gs' = gs₁} shapes' r e f w t =
      go (subst (λ (z : Ordering). Turn z fs₀ gs₀ n₀ u₀ old₀ fs₁ gs₁) e t) w
    where
      go
          : {fs gs : Fields} {n : Bytes} {u : Shape} {old : ℕ} {fs' gs' : Fields} → Turn Equal fs gs n u old fs' gs'
          → Walks shapes second pool p used row end other to left fs gs → Puts shapes shapes' used row old (2 * forms u) (MemberRows p n u) r
      go (turn_both {n} {a} {b}) w =
          let s = fields_first w.walk.ours in
          let q = fields_first w.walk.theirs in
          puts_named shapes shapes' used row (2 * forms a) (2 * forms (join a b)) (2 * forms (join a b)) (join a b) r s.1 refl
          (f p s.0 q.0 a b (equal_joins w))
