-- No event of the controller writes a link of the ring (EHCI 1.0, 3.6, 4.8 and 4.10): of a queue head that it may reach it writes words 3 to 11 alone, and one of which the
-- open is unfinished it doesn't meet.
use Rattle.std.proofs.Common.{◌≡◌, ◌≢◌, ℕ, suc, ◌+◌, ◌*◌, ◌==◌, Bool, true, false, ◌||◌, List, [], ◌∷◌, ◌++◌, length, Option, Some, None, ap, refl, sym, subst, ◌∙◌, arith}
use Rattle.std.proofs.lemmas.Bool.{eqb-true, eq-eqb, or_left, or_right, false≢true}
use Rattle.law_microframes.proofs.Common.{same_before}
use Rattle.law_queues.proofs.Common.{same_queue}
use Rattle.law_driver.proofs.Common.{among_later}
use Rattle.word_mem.specs.Memory.{Mem, word_at}
use Rattle.link_words.specs.Links.{link_read}
use Rattle.drv_table.specs.declared.content.Command.{Command}
use Rattle.drv_table.specs.declared.content.Command.TheVariants as unfinished
use Rattle.drv_table.specs.declared.content.Endpoint.{Endpoint}
use Rattle.drv_table.specs.declared.content.Transfer.{Transfer}
use Rattle.drv_table.specs.DriverContent.{DriverContent}
use Rattle.drv_table.specs.Accepting.{newest_of}
use Rattle.drv_table.specs.Words.{queue_head_link}
use Rattle.claims_driver.specs.Leaving.{IsOrderly}
use Rattle.law_driver.proofs.lemmas.run_owners.Orders.{times_both}
use Rattle.claims_driver.specs.Ring.{link_in, IsQueueOf, IsAmong}
use Rattle.law_driver.specs.ring_members.Words.{StandsFor, IsRing}
use Rattle.law_driver.proofs.lemmas.ring_members.Placed.{left_ring, linked_alive}
use Rattle.claims_driver.specs.Walk.{IsReached, at_head, at_member, at_waiting, at_rung}
use Rattle.law_driver_ring.proofs.lemmas.walk_members.Leading.{among_front}
use Rattle.law_driver.specs.endpoint_lives.Lives.{is_one_of, may_meet}
use Rattle.law_driver_ring.specs.fed_queues.Places.{AreMet}
use Rattle.law_queues.specs.reached_rings.Reaching.{is_reached}
use Rattle.law_queues.proofs.lemmas.reached_rings.Computing.{among_one, reached_is_reached}
use Rattle.law_structures.specs.lent_structures.Structures.{StructureSets}
use Rattle.law_structures.specs.lent_structures.Sound.{IsMember}
use Rattle.law_descriptors.specs.frame_keeps.Leaving.{LeavesStructures}
use Rattle.law_microframes.specs.visits.Ranks.{name_of, next_of}

-- ---- one of which the open is unfinished leads to the newest of the others

length_snoc : (xs : List Endpoint) (x : Endpoint) → length (xs ++ x ∷ []) ≡ suc (length xs)
length_snoc [] x = refl
length_snoc (y ∷ xs) x = ap suc (length_snoc xs x)

opening_same : (word now : ℕ → ℕ) (xs : List Endpoint) (ts : List Transfer) (q : ℕ) → StandsFor word xs ts (Some (unfinished.Open q)) → StandsFor now xs ts (Some (unfinished.Open q)) → now q ≡ word q
opening_same word now xs ts q old new =
    let same : new.older ≡ old.older = same_before new.older old.older new.new old.new (sym new.all ∙ old.all) in
    new.link ∙ (ap (λ ys. queue_head_link (newest_of ys)) same ∙ sym old.link)

-- ---- every other one is met

module _ (d : DriverContent) (member : ℕ → Bool) (met : AreMet d member) (orderly : IsOrderly d) (b : ℕ) (not_opening : d.command ≢ Some (unfinished.Open b)) where
  met_at : (e : ℕ) (at : IsQueueOf d.endpoints e b) → at.endpoint.gone ≡ false → may_meet d e at.endpoint ≡ true → member (32 * b) ≡ true
  met_at e at alive near =
      ap (λ (x : ℕ). member (32 * x)) (sym at.queue)
      ∙ met.each e at.endpoint at.here (record { there = record { linked = λ is. not_opening (is ∙ ap (λ (x : ℕ). Some (unfinished.Open x)) at.queue); kept = alive }; near = near })

  left_near : (e : ℕ) (x : Endpoint) → (is_one_of e d.waiting || is_one_of e d.rung) ≡ true → may_meet d e x ≡ true
  left_near e x on = or_right x.linked (is_one_of e d.waiting || is_one_of e d.rung) on

  left_met : (e : ℕ) (at : IsQueueOf d.endpoints e b) → IsAmong e (d.rung ++ d.waiting) → (is_one_of e d.waiting || is_one_of e d.rung) ≡ true → member (32 * b) ≡ true
  left_met e at among on =
      met_at e at (left_ring d e at.endpoint (d.rung ++ d.waiting) orderly (omega (arith, times_both e d.rung d.waiting)) among at.here).1 (left_near e at.endpoint on)

  pub reached_met : (rings : Bool) → IsReached d rings b → member (32 * b) ≡ true
  reached_met rings (at_head h) = ap (λ (x : ℕ). member (32 * x)) h ∙ met.head
  reached_met rings (at_member e at on) = met_at e at (linked_alive d e at.endpoint orderly at.here on).1 (or_left at.endpoint.linked (is_one_of e d.waiting || is_one_of e d.rung) on)
  reached_met rings (at_waiting e at among) = left_met e at (among_later e d.rung d.waiting among) (or_left (is_one_of e d.waiting) (is_one_of e d.rung) (among_one e d.waiting among))
  reached_met rings (at_rung e at among on) = left_met e at (among_front e d.rung d.waiting among) (or_right (is_one_of e d.waiting) (is_one_of e d.rung) (among_one e d.rung among))

-- ---- its link stays

first_left : (m new : Mem) (n : ℕ) → word_at new (n + 4 * 0) ≡ word_at m (n + 4 * 0) → word_at new n ≡ word_at m n
first_left m new n same =
    let here : n + 4 * 0 ≡ n = omega arith in
    ap (word_at new) (sym here) ∙ (same ∙ ap (word_at m) here)

no_open : (b : ℕ) → None ≡ Some (unfinished.Open b) → ⊥
no_open b e = cc

module _ (m new : Mem) (d : DriverContent) (member : ℕ → Bool) (parts : StructureSets) (met : AreMet d member) (orderly : IsOrderly d)
    (members : (n : ℕ) → member n ≡ true → IsMember member n (parts n)) (leaves : LeavesStructures parts m new) (old : IsRing (link_in m) d) (ring : IsRing (link_in new) d) where
  told : (rings : Bool) (b : ℕ) → IsReached d rings b → d.command ≢ Some (unfinished.Open b) → link_in new b ≡ link_in m b
  told rings b reached other =
      let is : IsMember member (32 * b) (parts (32 * b)) = members (32 * b) (reached_met d member met orderly b other rings reached) in
      first_left m new (32 * b) (leaves.heads (32 * b) (32 * b) is.queue 0 is.here (omega arith))

  opened : (rings : Bool) (b q : ℕ) → IsReached d rings b → d.command ≡ Some (unfinished.Open q) → (x : Bool) → (q == b) ≡ x → link_in new b ≡ link_in m b
  opened rings b q reached is true same =
      subst (λ (n : ℕ). link_in new n ≡ link_in m n) (eqb-true q b same)
      (opening_same (link_in m) (link_in new) d.endpoints d.transfers q (subst (StandsFor (link_in m) d.endpoints d.transfers) is old.ring)
      (subst (StandsFor (link_in new) d.endpoints d.transfers) is ring.ring))
  opened rings b q reached is false other = told rings b reached (λ there. false≢true (sym other ∙ eq-eqb q b (same_queue q b (sym is ∙ there))))

  by_command : (rings : Bool) (b : ℕ) → IsReached d rings b → (o : Option Command) → d.command ≡ o → link_in new b ≡ link_in m b
  by_command rings b reached None is = told rings b reached (λ there. no_open b (sym is ∙ there))
  by_command rings b reached (Some (unfinished.Open q)) is = opened rings b q reached is (q == b) refl
  by_command rings b reached (Some (unfinished.Publish c ws)) is = told rings b reached (λ there. absurd (publishes c ws b (sym is ∙ there)))
    where
      publishes : (c : ℕ) (ws : List ℕ) (b : ℕ) → Some (unfinished.Publish c ws) ≡ Some (unfinished.Open b) → ⊥
      publishes c ws b e = cc
  by_command rings b reached (Some (unfinished.Unlink e c l)) is = told rings b reached (λ there. absurd (unlinks e c l b (sym is ∙ there)))
    where
      unlinks : (e c l b : ℕ) → Some (unfinished.Unlink e c l) ≡ Some (unfinished.Open b) → ⊥
      unlinks e c l b same = cc
  by_command rings b reached (Some unfinished.Chain) is = told rings b reached (λ there. absurd (chains b (sym is ∙ there)))
    where
      chains : (b : ℕ) → Some unfinished.Chain ≡ Some (unfinished.Open b) → ⊥
      chains b e = cc
  by_command rings b reached (Some (unfinished.Iso e t n)) is = told rings b reached (λ there. absurd (describes e t n b (sym is ∙ there)))
    where
      describes : (e t n b : ℕ) → Some (unfinished.Iso e t n) ≡ Some (unfinished.Open b) → ⊥
      describes e t n b same = cc
  by_command rings b reached (Some (unfinished.Unchain e)) is = told rings b reached (λ there. absurd (unchains e b (sym is ∙ there)))
    where
      unchains : (e b : ℕ) → Some (unfinished.Unchain e) ≡ Some (unfinished.Open b) → ⊥
      unchains e b same = cc

  pub links_stay : (rings : Bool) (n : ℕ) → is_reached d rings n ≡ true → next_of new n ≡ next_of m n
  links_stay rings n on =
      let r = reached_is_reached d rings n on in
      ap (next_of new) r.at ∙ (ap (λ (w : ℕ). name_of (link_read w)) (by_command rings r.block r.reached d.command refl) ∙ ap (next_of m) (sym r.at))
