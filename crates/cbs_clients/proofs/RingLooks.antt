-- Looks at the rings.
use Rattle.std.proofs.Common.{◌≡◌, ℕ, ◌<◌, List, [], ◌∷◌, ◌++◌, length, map, get_or, refl, ap, sym, ◌∙◌, subst, arith, inl, inr, zero, suc}
use Rattle.std.proofs.Math.ListN.{set}
use Rattle.std.proofs.lemmas.List.{append-nil, nil_from_length, append_assoc, map-set, set-get_or, length-map}
use Rattle.std.proofs.lemmas.Bool.{cases_eq}
use Rattle.std.proofs.lemmas.Option.{slice_get_within}
use mathlib.Core.List.{IsPrefix}
use Rattle.rtrb.specs.declared.producer.Producer.{Producer}
use Rattle.rtrb.specs.declared.consumer.Consumer.{Consumer}
use Rattle.rtrb.specs.Ring.{SameConsumer, IsPair, ConsumerLooked, received, known_items}
use Rattle.cbs_job.specs.declared.work.Work.{Ghosts}
use Rattle.cbs_clients.specs.declared.client.Client.{Client}
use Rattle.cbs_clients.specs.Rings.{Ring, consumer_ring, producer_ring, rings_in, known_in, Looked}
use Rattle.cbs_clients.specs.Marks.{KnowsNoOthers}
use Rattle.cbs_clients.specs.declared.marks.Marked.{Marked}
use Rattle.cbs_clients.specs.declared.message.Message.{Message}
use Rattle.rtrb.specs.declared.AnyItems.{AnyItems}
use Rattle.cbs_clients.specs.declared.rings.Rings.{Rings}
use Rattle.cbs_clients.specs.Clients.{server_of, ring_of, IsOpened}
use Rattle.cbs_clients.proofs.Places.{at_read, at_set_same, at_set_other, at_set_kept, shown}

module _ {X : Type 0} where
  -- a list is a prefix of itself
  pub prefix_refl : (xs : List X) → IsPrefix xs xs
  prefix_refl xs = ([], append-nil xs)

  -- a prefix of a prefix is one
  pub prefix_along : (a b c : List X) → IsPrefix a b → IsPrefix b c → IsPrefix a c
  prefix_along a b c p q = (p.0 ++ q.0, sym (append_assoc a p.0 q.0) ∙ (ap (λ xs. xs ++ q.0) p.1 ∙ q.1))

  -- equal lists
  pub prefix_same : (xs ys : List X) → ys ≡ xs → IsPrefix xs ys
  prefix_same xs ys e = ([], append-nil xs ∙ sym e)

module _ {X Y : Type 0} where
  -- a write that extends what is shown at its place extends it at every place
  pub at_set_longer : (f : X → List Y) (xs : List X) (i : ℕ) (x y : X) (s : ℕ) → i < length xs → y ≡ get_or xs i y → IsPrefix (f y) (f x)
      → IsPrefix (get_or (map f xs) s []) (get_or (map f (set xs i x)) s [])
  at_set_longer f xs i x y s l r p =
      elim (cases_eq s i) [
        | inl e ↦
            let new = at_set_same f xs i x s [] l e in
            let old : get_or (map f xs) s [] ≡ f y = ap (λ (k : ℕ). get_or (map f xs) k []) e ∙ at_read f xs i y [] l r in
            subst (λ (a : List Y). IsPrefix a (get_or (map f (set xs i x)) s [])) (sym old) (subst (λ (b : List Y). IsPrefix (f y) b) (sym new) p)
        | inr n ↦ prefix_same (get_or (map f xs) s []) (get_or (map f (set xs i x)) s []) (at_set_other f xs i x s [] n)
      ]

  -- a write that keeps what is shown at its place keeps all that is shown
  pub map_set_kept : (f : X → Y) (xs : List X) (i : ℕ) (x y : X) → i < length xs → y ≡ get_or xs i y → f x ≡ f y → map f (set xs i x) ≡ map f xs
  map_set_kept f xs i x y l r e =
      map-set f xs i x ∙ (ap (λ (v : Y). set (map f xs) i v) (e ∙ sym (at_read f xs i y (f y) l r)) ∙ set-get_or (map f xs) i (f y))

  pub within_shown : (f : X → List Y) (xs : List X) (s : ℕ) → 0 < length (get_or (map f xs) s []) → s < length xs
  within_shown f [] s l = absurd (omega arith)
  within_shown f (x ∷ xs) zero l = omega arith
  within_shown f (x ∷ xs) (suc s) l = let h = within_shown f xs s l in omega arith

module _ {T A P : Type 0} where
  pub same_ring : (a b : Consumer T A P) → SameConsumer a b → consumer_ring b ≡ consumer_ring a
  same_ring a b h = cc (h.0.0, h.0.1, h.0.2, h.0.3)

  pub pair_ring : (p : Producer T A P) (c : Consumer T A P) → IsPair p c → consumer_ring c ≡ producer_ring p
  pair_ring p c h = cc (h.0, h.1, h.2, h.3)

  -- a look at one of the rings
  pub looked_at :
      (es : List (Consumer T A P)) (i : ℕ) (x y : Consumer T A P) → i < length es → y ≡ get_or es i y → ConsumerLooked y x
      → record {
        rings : map consumer_ring (set es i x) ≡ map consumer_ring es;
        received : (s : ℕ) → get_or (map received (set es i x)) s [] ≡ get_or (map received es) s [];
        known : (s : ℕ) → IsPrefix (get_or (map known_items es) s []) (get_or (map known_items (set es i x)) s []);
      }
  looked_at es i x y l r h =
      record {
        rings = map_set_kept consumer_ring es i x y l r (same_ring y x h.0);
        received = λ s. at_set_kept received es i x y s [] l r h.1;
        known = λ s. at_set_longer known_items es i x y s l r h.2;
      }

module _ {W A : Type 0} {g : Ghosts W} where
  -- one of the ends looked at its ring
  pub looked_by :
      (a b : Rings W A g) (i : ℕ) (x y : Consumer (Message W) A AnyItems) → i < length (rings_in a) → y ≡ get_or a.ends.items i y → ConsumerLooked y x
      → b.ends.items ≡ set a.ends.items i x → Looked a b
  looked_by a b i x y l r h e =
      let p = looked_at a.ends.items i x y (omega (arith, l, length-map a.ends.items (consumer_ring))) r h in
      record {
        rings = ap (map consumer_ring) e ∙ p.rings;
        received = λ s. rw e (p.received s);
        known = λ s. rw e (p.known s);
      }

-- no message is known of the servers that are not marked, after a look that found none
pub still_quiet : {T A P : Type 0} (m : Marked) (es : List (Consumer T A P)) (i : ℕ) (x : Consumer T A P) → i < length es
    → KnowsNoOthers m es → length (known_items x) ≡ 0 → KnowsNoOthers m (set es i x)
still_quiet m es i x l quiet none s below unmarked =
    elim (cases_eq s i) [
      | inl e ↦ at_set_same known_items es i x s [] l e ∙ nil_from_length (known_items x) none
      | inr n ↦ at_set_other known_items es i x s [] n ∙ quiet s below unmarked
    ]

-- rings that nobody looked at
pub no_look : {W A : Type 0} {g : Ghosts W} (r : Rings W A g) → Looked r r
no_look r = record { rings = refl; received = λ s. refl; known = λ s. prefix_refl (known_in r s) }

-- a server of which a message was seen has a ring
pub seen_within : {W A : Type 0} {g : Ghosts W} (r : Rings W A g) (s : ℕ) → 0 < length (known_in r s) → s < length (rings_in r)
seen_within r s some = let l = within_shown known_items r.ends.items s some in omega (arith, l, length-map r.ends.items (consumer_ring))

pub ruleset ringed = (shown, prefix_refl, at_set_longer, map_set_kept, within_shown, same_ring)

pub opened_within : {W A : Type 0} {g : Ghosts W} (rings : List (Ring A)) (c : Client W A g) → IsOpened rings c → server_of c < length rings
opened_within rings c h = slice_get_within rings (server_of c) (ring_of c) h

pub ruleset settled = (opened_within)
