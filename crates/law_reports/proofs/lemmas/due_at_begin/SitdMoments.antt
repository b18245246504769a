-- The walk of the frames comes to each siTD of which a transaction was due as the microframe began, while no cancel of its endpoint is
-- accepted; so it had that transaction once the walk is over, and was written back after it.
use Rattle.std.proofs.Common.{◌≡◌, ◌≢◌, ℕ, [], ◌∷◌, Bool, true, false, List, length, Option, Some, None, ap, refl, sym, subst, ◌∙◌, inl}
use Rattle.std.proofs.Common.{inr, ◌⊎◌}
use Rattle.word_mem.specs.Memory.{Mem}
use Rattle.itd_sitd.specs.declared.sitd.Sitd.{Sitd}
use Rattle.hc_interrupt.specs.Turns.{microframe_of}
use Rattle.hc_iso.specs.declared.held.SitdTurn.{SitdTurn}
use Rattle.hc_iso.specs.declared.held.SitdTurn.TheVariants as turns
use Rattle.hc_iso.specs.Sitd.{sitd_turn, turn_at, sitd_missed, comes as is_to_come}
use Rattle.periodic_walk.specs.declared.chain.ChainRow.{ChainRow}
use Rattle.periodic_walk.specs.declared.chain.ChainRow.TheVariants as chains
use Rattle.periodic_walk.specs.declared.state.Hand.{Hand}
use Rattle.periodic_walk.specs.Chain.{chain_row}
use Rattle.hc_core.specs.declared.controller.ControllerRow.{ControllerRow}
use Rattle.hc_core.specs.declared.controller.ControllerRow.TheVariants as rows
use Rattle.bus_wire.specs.Bus.{Fixed}
use Rattle.bus_world.specs.World.{World, controller_row}
use Rattle.claims_world.specs.DueAtBegin.{begun}
use Rattle.claims_world.specs.Reach.{SitdAt}
use Rattle.claims_world.specs.Sitds.{SitdMade, Sitds, no_sitds, came_as, came_by, came_at, sitds_after, sitds, HasTaken, IsServed}
use Rattle.claims_world.specs.Sitds.{AreServed}
use Rattle.claims_world.specs.SitdsAtBegin.{IsSitdDueAtBegin, HasServed}
use Rattle.claims_world.specs.SlotsAtBegin.{IsLinkedAs}
use Rattle.claims_world.specs.Visits.{fetched_by}
use Rattle.law_world.specs.memory.Mixed.{IsMixedWorld}
use Rattle.law_microframes.proofs.lemmas.due.lemmas.sitds.Moments.{texts_serve_sitds}
use Rattle.law_reports.specs.due_at_begin.Laws.{TextsServeSitdsAtBegin}
use Rattle.law_reports.proofs.lemmas.due_at_begin.DescriptorMoments.{AreFollowed, IsFound, what_is_due_is_found}
use Rattle.law_reports.proofs.lemmas.due_at_begin.SitdAhead.{IsSitdThere, IsRelinked, its_sitd, read_is_there, its_relinked, active_sitd}
use Rattle.law_reports.proofs.lemmas.due_at_begin.SitdAhead.{fetched_sitd, walked_sitd, driven_sitd, commanded_sitd}

-- the walk came to the siTD v at n, whatever its link was then
abbrev HasCome : ℕ → Sitd → List (ℕ × Sitd) → Type 0
HasCome n v [] = ⊥
HasCome n v (c ∷ cs) = ((c.0 ≡ n) × IsRelinked v c.1) ⊎ HasCome n v cs

abbrev Stands : (b : World) (n : ℕ) → IsSitdDueAtBegin b n → Mem → Type 0
Stands b n d m = IsSitdThere m n d.sitd

abbrev Found : (b : World) (n : ℕ) → IsSitdDueAtBegin b n → Sitds → Type 0
Found b n d t = HasCome n d.sitd t.came

-- ---- one with a transaction to come is active

works_active : (active missed comes : Bool) → turn_at active missed comes ≡ turns.Work → active ≡ true
works_active true missed comes is = refl
works_active false missed comes is = absurd (cc)

is_active : (u : ℕ) (v : Sitd) → sitd_turn u v ≡ turns.Work → v.active ≡ true
is_active u v is = works_active v.active (sitd_missed u v) (is_to_come u v) is

-- ---- what is fetched is found

more_as : (turn : SitdTurn) (n a : ℕ) (v x : Sitd) (cs : List (ℕ × Sitd)) → HasCome n v cs → HasCome n v (came_as turn a x cs)
more_as turns.Work n a v x cs was = inr was
more_as turns.Rest n a v x cs was = was
more_as turns.Miss n a v x cs was = was

more_by : (n u : ℕ) (v : Sitd) (row : ChainRow) (cs : List (ℕ × Sitd)) → HasCome n v cs → HasCome n v (came_by u row cs)
more_by n u v chains.Fault cs was = was
more_by n u v chains.Ends cs was = was
more_by n u v (chains.Queue a q) cs was = was
more_by n u v (chains.Itd a x) cs was = was
more_by n u v (chains.Sitd a x) cs was = more_as (sitd_turn u x) n a v x cs was

more_at : (n u : ℕ) (v : Sitd) (hand : Option Hand) (row : ChainRow) (cs : List (ℕ × Sitd)) → HasCome n v cs
    → HasCome n v (came_at hand u row cs)
more_at n u v None row cs was = more_by n u v row cs was
more_at n u v (Some hand) row cs was = was

more : (row : ControllerRow) → row ≢ rows.Begin → (w b : World) (n : ℕ) (d : IsSitdDueAtBegin b n) (t : Sitds) → Found b n d t
    → Found b n d (sitds_after row w t)
more rows.Begin other w b n d t found = absurd (other refl)
more rows.Frame other w b n d t found =
    more_at n (microframe_of w.control.frame.index) d.sitd w.control.frame.hand (chain_row w.memory w.control.frame.cursor) t.came found
more rows.Idle other w b n d t found = found
more rows.Enter other w b n d t found = found
more rows.Go other w b n d t found = found
more rows.End other w b n d t found = found

comes : (fixed : Fixed) (w : World) (k : IsMixedWorld w) → controller_row w ≡ rows.Frame → (b : World) (n : ℕ) (d : IsSitdDueAtBegin b n)
    (t : Sitds) → IsLinkedAs SitdAt w n → Stands b n d w.memory → w.control.frame.index ≡ b.control.frame.index
    → w.control.frame.hand ≡ None → fetched_by (chain_row w.memory w.control.frame.cursor) ≡ Some n
    → Found b n d (sitds_after rows.Frame w t)
comes fixed w k row b n d t l there index none is =
    let x = (its_sitd w k n l.reached).sitd in
    let same : IsRelinked d.sitd x = its_relinked w k n l.reached d.sitd there in
    let turn : sitd_turn (microframe_of w.control.frame.index) x ≡ turns.Work =
    ap (λ (i : ℕ). sitd_turn (microframe_of i) x) index ∙ ap (sitd_turn (microframe_of b.control.frame.index)) same ∙ d.comes in
    subst (λ (h : Option Hand). HasCome n d.sitd
    (came_at h (microframe_of w.control.frame.index) (chain_row w.memory w.control.frame.cursor) t.came)) (sym none)
    (subst (λ (r : ChainRow). HasCome n d.sitd (came_by (microframe_of w.control.frame.index) r t.came))
    (sym (fetched_sitd fixed w k row n l.reached is))
    (subst (λ (z : SitdTurn). HasCome n d.sitd (came_as z n x t.came)) (sym turn) (inl (refl, same))))

-- ---- siTDs

sitds_are_followed : AreFollowed true Sitds no_sitds sitds_after IsSitdDueAtBegin Stands Found
sitds_are_followed = record {
  linked = λ b n d. d.linked;
  begins = λ b k n d. read_is_there b k n d.linked.reached d.sitd d.read;
  active = λ w k b n d l there.
      active_sitd w k n l.reached d.sitd (is_active (microframe_of b.control.frame.index) d.sitd d.comes) there;
  walked = λ fixed w k row b n d l apart there. walked_sitd fixed w k row n l.reached apart d.sitd there;
  comes = comes;
  more = more;
  driven = λ w k later leaves b n d l still there. driven_sitd w k n l later still d.sitd there;
  offered = λ w k line cmd leaves b n d l there. commanded_sitd w k n l line cmd d.sitd there;
}

-- ---- what came was made

relinked_takes : (v y x : Sitd) (n : ℕ) → HasTaken (record v { link = y.link }) x n → HasTaken v x n
relinked_takes v y x n k =
    record { bytes = k.bytes; err = k.err; babble = k.babble; transaction = k.transaction; missed = k.missed }

relinked_serves : (u : ℕ) (v x : Sitd) (m : SitdMade) → IsRelinked v x → IsServed u x m → IsServed u v m
relinked_serves u v x m same k =
    let z : IsServed u (record v { link = x.link }) m = subst (λ (i : Sitd). IsServed u i m) same k in
    record {
      part = λ out. let p = z.part out in record { parts = p.parts; bytes = p.bytes; marked = p.marked; active = p.active };
      started = z.started;
      completed = λ inward waiting.
          let p = z.completed inward waiting in
          record {
            marked = p.marked;
            more = λ bytes is fits. let y = p.more bytes is fits in (relinked_takes v x m.sitd (length bytes) y.0, y.1);
            last = λ bytes is fits. let y = p.last bytes is fits in (relinked_takes v x m.sitd (length bytes) y.0, y.1);
            not_yet = λ is later. let y = p.not_yet is later in (relinked_takes v x m.sitd 0 y.0, y.1);
          };
    }

came_is_made : (u n : ℕ) (v : Sitd) (cs : List (ℕ × Sitd)) (ms : List SitdMade) → AreServed u cs ms → HasCome n v cs → HasServed u n v ms
came_is_made u n v [] [] served was = absurd was
came_is_made u n v [] (m ∷ ms) served was = absurd was
came_is_made u n v (c ∷ cs) [] served was = absurd served
came_is_made u n v (c ∷ cs) (m ∷ ms) served (inl one) =
    inl (served.0 ∙ one.0, relinked_serves u v c.1 m one.1 served.1.0)
came_is_made u n v (c ∷ cs) (m ∷ ms) served (inr was) = inr (came_is_made u n v cs ms served.1.1 was)

pub texts_serve_sitds_at_begin : TextsServeSitdsAtBegin
texts_serve_sitds_at_begin = λ text s spelled k n past free few d stays.
    let i : IsFound true Sitds no_sitds sitds_after IsSitdDueAtBegin Stands Found sitds_are_followed text s spelled k n d =
    what_is_due_is_found true Sitds no_sitds sitds_after IsSitdDueAtBegin Stands Found sitds_are_followed text s spelled k n d past stays in
    came_is_made (microframe_of (begun s k).control.frame.index) n d.sitd (sitds s k).came (sitds s k).made
    (subst (λ (f : ℕ). AreServed (microframe_of f) (sitds s k).came (sitds s k).made) i.index
    (texts_serve_sitds text s spelled k past free few)) i.found
