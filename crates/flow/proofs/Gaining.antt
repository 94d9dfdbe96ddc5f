-- Where what gains lies, that without a gain no rule is broken anew, and what a fork tells (02, Paper 5).
use Prim.Native.Nat.{ℕ, ◌<◌}
use native.Mathlib.Omega.{arith}
use mathlib.Core.Path.{◌≡◌, refl, sym, ap, ◌∙◌}
use mathlib.Core.Bool.{true, false, not}
use mathlib.Core.List.{List}
use lib.Dec.{eqb}
use lib.ListN.{get_or}
use borrow.Author.Tests.{eqb-true, eq-eqb}
use Rattle.sets.specs.Sets.{has, only}
use Rattle.sets.proofs.Members.{none_has, only_has, only_lt, union_has, set_ext}
use Rattle.sets.proofs.Unions.{none_union}
use Rattle.flow.specs.Box.{container_of, Tables, State, items_of, holds}
use Rattle.flow.specs.Links.{reach, given_from}
use Rattle.flow.specs.MapBoth.{in_sequence}
use Rattle.flow.specs.Calls.{fork, Call, Flow, still, gift, arrival, exchange, copy, clear, flow_by, change, moved, after}
use Rattle.flow.specs.Rules.{lowest_broken}
use Rattle.flow.specs.Gained.{has_more}
use Rattle.flow.specs.Verdicts.{gained_from}
use Rattle.flow.specs.Contents.{state_at}
use Rattle.flow.specs.Consequences.{GainedExactly, NoGainBreaksNone, given_to, GainedInReach, ForkCopies, ForkTells}
use Rattle.flow.proofs.Bools.{by, no_both, and_l, and_r, or_elim, or_l, or_r, same}
use Rattle.flow.proofs.Judging.{none_broken}
use Rattle.flow.proofs.Moves.{in_list, moved_in, given_has, copy_holds, clear_holds, source_other}
use Rattle.flow.proofs.After.{after_held}
use Rattle.flow.proofs.Keeping.{state_kept}
use Rattle.flow.proofs.Fork.{fork_copies}
use Rattle.flow.proofs.GainLaws.{gained_lt, gained_at, gained_none, none_gained, gained_exactly}

-- ---- rules
-- a state that adds nothing to s anywhere
pub adds_none : (s t : State) → ((c i : ℕ) → c < 64 → holds t c i ≡ true → holds s c i ≡ true) → gained_from s t ≡ 0
unfolding holds items_of
adds_none s t less = gained_none s.items t.items less

pub no_gain_breaks_none : NoGainBreaksNone
unfolding NoGainBreaksNone lowest_broken after holds items_of
no_gain_breaks_none s x whole e = none_broken (after s x) s (none_gained s.items (after s x).items e) 0 _ whole

-- ---- reaches
-- what holds an item after a flow that it lacked before was given to
reached : (s : State) (f : Flow) (v i : ℕ) → v < 64 → holds s v i ≡ false → in_list (moved_in s f) v i ≡ true → has (given_to s.tables f) v ≡ true
unfolding holds items_of moved given_to in_sequence
reached s still v i h k e = no_both e k
reached s (gift g u) v i h k e = or_elim (in_list s.items v i) _ (λ z. no_both z k) (and_l (has (reach s.tables u) v) _) (sym (given_has s.items (reach s.tables u) (get_or s.items g 0) v i h) ∙ e)
reached s (arrival u j) v i h k e = or_elim (in_list s.items v i) _ (λ z. no_both z k) (and_l (has (reach s.tables u) v) _) (sym (given_has s.items (reach s.tables u) (only j) v i h) ∙ e)
reached s (exchange a b) v i h k e =
    let t : Tables = s.tables in
    let l : List ℕ = given_from t s.items a b in
    let first : in_list l v i ≡ true → has (reach t b) v ≡ true =
    λ z. or_elim (in_list s.items v i) _ (λ w. no_both w k) (and_l (has (reach t b) v) _) (sym (given_has s.items (reach t b) (get_or s.items a 0) v i h) ∙ z) in
    union_has (reach t b) (reach t a) v
    ∙ or_elim (in_list l v i) _ (λ z. or_l (has (reach t b) v) _ (first z)) (λ z. or_r (has (reach t b) v) _ (and_l (has (reach t a) v) _ z)) (sym (given_has l (reach t a) (get_or l b 0) v i h) ∙ e)
reached s (copy a b) v i h k e =
    only_has b v ∙ by (eqb b v) (λ z. z) (λ z. no_both (rw (source_other a b v (λ w. no_both (eq-eqb b v (sym w)) z)) at (sym (copy_holds s a b v i h) ∙ e)) k)
reached s (clear u) v i h k e = no_both (and_r (not (eqb v u)) _ (sym (clear_holds s u v i h) ∙ e)) k

pub gained_in_reach : GainedInReach
unfolding GainedInReach GainedExactly holds items_of
gained_in_reach s x c e =
    let g = (gained_exactly s.items (after s x).items c).0 e in
    reached s x.flow c g.1.0 g.0 g.1.2 (after_held s x c g.1.0 g.0 g.1.1)

-- ---- a fork
fork_inside : (s : State) (p a c : ℕ) (t : State) → t ≡ after s (change s.tables (record { kind = fork; process = p; a = a; b = 0; c = 0 })) → has (gained_from s t) c ≡ true → c ≡ container_of a
unfolding GainedInReach change flow_by given_to
fork_inside s p a c t e h = sym (eqb-true (container_of a) c (sym (only_has (container_of a) c) ∙ gained_in_reach s (change s.tables (record { kind = fork; process = p; a = a; b = 0; c = 0 })) c (rw e at h)))

pub fork_tells : ForkTells
unfolding ForkTells ForkCopies has_more items_of
fork_tells steps k p a hp ha e =
    let s : State = state_at steps k in
    let q : Call = record { kind = fork; process = p; a = a; b = 0; c = 0 } in
    let t : State = after s (change s.tables q) in
    let child : has (gained_from s t) (container_of a) ≡ not (eqb (items_of s (container_of p)) 0) =
    gained_at s.items t.items (container_of a) (omega arith)
    ∙ (let before : get_or s.items (container_of a) 0 ≡ 0 = (state_kept steps k).bare (container_of a) (omega arith) e in
    let now : get_or t.items (container_of a) 0 ≡ get_or s.items (container_of p) 0 = (fork_copies steps k p a hp ha e).0 in
    rw (before, now, none_union (get_or s.items (container_of p) 0)) refl) in
    let inside : (c : ℕ) → has (gained_from s t) c ≡ true → c ≡ container_of a =
    λ c z. fork_inside s p a c t refl z in
    by (eqb (items_of s (container_of p)) 0)
    (λ z. rw z (set_ext (gained_from s t) 0 (gained_lt s.items t.items) (omega arith)
    (λ c h. by (has (gained_from s t) c) (λ w. no_both (rw (inside c w) at w) (child ∙ ap not z)) (λ w. w ∙ sym (none_has c)))))
    (λ z. rw z (set_ext (gained_from s t) (only (container_of a)) (gained_lt s.items t.items) (only_lt (container_of a) (omega arith))
    (λ c h. same _ _ (λ w. only_has (container_of a) c ∙ eq-eqb (container_of a) c (sym (inside c w))) (λ w. rw (eqb-true (container_of a) c (sym (only_has (container_of a) c) ∙ w)) at (child ∙ ap not z)))))
