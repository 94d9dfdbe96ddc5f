-- The state after a change: what its containers hold once what is not in use is emptied.
use Prim.Native.Nat.{ℕ, ◌<◌}
use mathlib.Core.Path.{◌≡◌, refl, sym, ap, ◌∙◌}
use mathlib.Core.Bool.{Bool, true, false, not, ◌&&◌}
use mathlib.Core.List.{List}
use lib.Dec.{eqb}
use lib.ListN.{get_or}
use borrow.Author.Tests.{eqb-true, eqb-false}
use Rattle.sets.specs.Sets.{has}
use Rattle.sets.proofs.Members.{none_has}
use Rattle.flow.specs.Box.{Tables, State, items_of, holds}
use Rattle.flow.specs.Links.{linked, reach, given, used}
use Rattle.flow.specs.MapBoth.{in_sequence}
use Rattle.flow.specs.Calls.{Flow, still, gift, arrival, exchange, copy, clear, Change, moved, ended, items_after, after}
use Rattle.flow.proofs.Bools.{and_false_l, by, no_both, choice, chosen_r}
use Rattle.flow.proofs.TableLaws.{table_at}
use Rattle.flow.proofs.Rows.{Rows}
use Rattle.flow.proofs.Use.{linked_used, reach_used}
use Rattle.flow.proofs.Moves.{Along, Fit, in_list, moved_in, given_at, source_other, copy_at, clear_at}

-- the mappings of each sort
pub record Linking (s : Tables) : Type 0 where
  pub reads : Rows s.live s.reads
  pub boths : Rows s.live s.boths

-- what is not in use holds nothing
abbrev pub Bare : State → Type 0
Bare s = (c : ℕ) → c < 64 → used s.tables c ≡ false → items_of s c ≡ 0

-- what is in use after a change keeps what was moved into it
unended : (s t : Tables) (c : ℕ) → used t c ≡ true → ended s t c ≡ false
unfolding ended
unended s t c e = rw e (go (used s c))
  where
    go : (b : Bool) → (b && false) ≡ false
    go true = refl
    go false = refl

module _ (s : State) (x : Change) where
  pub after_items : (c : ℕ) → c < 64 → items_of (after s x) c ≡ elim (ended s.tables x.tables c) as (λ z. ℕ) [ true ↦ 0 | false ↦ get_or (moved_in s x.flow) c 0 ]
  unfolding after items_after items_of
  after_items c h = table_at 64 _ c 0 h

  pub after_tables : (after s x).tables ≡ x.tables
  unfolding after
  after_tables = refl

  pub after_in_use : (c : ℕ) → c < 64 → used x.tables c ≡ true → items_of (after s x) c ≡ get_or (moved_in s x.flow) c 0
  after_in_use c h e = after_items c h ∙ chosen_r (ended s.tables x.tables c) 0 _ (unended s.tables x.tables c e)

  -- what is held afterwards was so before anything was emptied
  pub after_held : (c i : ℕ) → c < 64 → holds (after s x) c i ≡ true → in_list (moved_in s x.flow) c i ≡ true
  unfolding holds
  after_held c i h =
      λ e. choice (λ z. has z i ≡ true → in_list (moved_in s x.flow) c i ≡ true) (ended s.tables x.tables c) 0 _ (λ q f. no_both f (none_has i)) (λ q f. f)
      (ap (λ (z : ℕ). has z i) (sym (after_items c h)) ∙ e)

  pub after_along : Linking x.tables → Along x.tables (moved_in s x.flow) → (u v i : ℕ) → u < 64 → v < 64
      → linked x.tables u v ≡ true → holds (after s x) u i ≡ true → holds (after s x) v i ≡ true
  unfolding holds
  after_along k a u v i hu hv l h =
      ap (λ (z : ℕ). has z i) (after_in_use v hv (linked_used x.tables k.reads k.boths u v l).1) ∙ a u v i hu hv l (after_held u i hu h)

-- a container in use neither before nor after a change has nothing moved into it
module _ (s : State) (t : Tables) (k : Linking s.tables) (b : Bare s) where
  outside : (u v : ℕ) → used s.tables u ≡ true → used s.tables v ≡ false → has (reach s.tables u) v ≡ false
  outside u v e f = by (has (reach s.tables u) v) (λ l. no_both (reach_used s.tables k.reads k.boths u v e l) f) (λ l. l)

  ungiven : (l : List ℕ) (u x v : ℕ) → v < 64 → used s.tables u ≡ true → used s.tables v ≡ false → get_or l v 0 ≡ 0
      → get_or (given l (reach s.tables u) x) v 0 ≡ 0
  ungiven l u x v hv hu e z = given_at l (reach s.tables u) x v hv ∙ chosen_r (has (reach s.tables u) v) _ _ (outside u v hu e) ∙ z

  pub unmoved : (f : Flow) → Fit s.tables t f → (v : ℕ) → v < 64 → used s.tables v ≡ false → used t v ≡ false → get_or (moved_in s f) v 0 ≡ 0
  unfolding moved in_sequence Fit items_of
  unmoved still fit v hv e g = b v hv e
  unmoved (gift a u) fit v hv e g = ungiven s.items u _ v hv fit.2 e (b v hv e)
  unmoved (arrival u i) fit v hv e g = ungiven s.items u _ v hv fit.2 e (b v hv e)
  unmoved (exchange a c) fit v hv e g =
      ungiven (given s.items (reach s.tables c) (items_of s a)) a _ v hv fit.2 e (ungiven s.items c (items_of s a) v hv fit.3 e (b v hv e))
  unmoved (copy a c) fit v hv e g =
      copy_at s a c v hv
      ∙ by (eqb v c) (λ q. no_both fit.3 (rw (eqb-true v c q) at g)) (λ q. ap (items_of s) (source_other a c v (eqb-false v c q)) ∙ b v hv e)
  unmoved (clear u) fit v hv e g = clear_at s u v hv ∙ choice (λ z. z ≡ 0) (eqb v u) 0 (items_of s v) (λ q. refl) (λ q. b v hv e)

-- what is not in use holds nothing
pub after_bare : (s : State) → Linking s.tables → Bare s → (x : Change) → Fit s.tables x.tables x.flow → Bare (after s x)
unfolding ended after
after_bare s k b x fit c h e =
    after_items s x c h
    ∙ choice (λ z. z ≡ 0) (ended s.tables x.tables c) 0 _ (λ q. refl) (λ q. unmoved s x.tables k b x.flow fit c h (and_false_l (used s.tables c) _ (ap not e) q) e)
