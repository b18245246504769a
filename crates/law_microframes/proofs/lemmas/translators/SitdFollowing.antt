-- Each start-split of a siTD follows its plan, at each moment of a script that a text spells, where the parts of an OUT come in turn.
use Rattle.std.proofs.Common.{◌≡◌, ℕ, ◌%◌, true, List, ◌∷◌, Option, Some, sym, ap, subst, ◌∙◌, ⊎_elim}
use Rattle.std.specs.List.{AllByRecursion}
use Rattle.std.proofs.lemmas.Bool.{true≢false}
use Rattle.script_types.specs.declared.scripts.Script.{Script}
use Rattle.script_text.specs.Faults.{Spells}
use Rattle.script_fits.proofs.Texts.{spelled_fits}
use Rattle.law_scripts.proofs.lemmas.script_bytes.Texts.{a_text_spells_bytes}
use Rattle.hc_iso.specs.declared.held.HeldSitd.{HeldSitd}
use Rattle.hc_iso.specs.Sitd.{sitd_missed, comes}
use Rattle.drv_chains.specs.declared.members.Member.{Member}
use Rattle.drv_periodic_table.specs.Periodic.{note_at}
use Rattle.drv_table.specs.DriverContent.{DriverContent}
use Rattle.periodic_walk.specs.declared.state.Hand.{Hand}
use Rattle.periodic_walk.specs.declared.state.Hand.TheVariants as hands
use Rattle.hc_core.specs.declared.controller.MicroframePart.TheVariants.{Periodic}
use Rattle.bus_world.specs.World.{World}
use Rattle.bus_world.specs.Budgets.{moment}
use Rattle.claims_world.specs.Visits.{frame_in, visited}
use Rattle.claims_world.specs.WithinLoad.{payments}
use Rattle.law_frames.specs.Met.{Kind}
use Rattle.law_world.specs.memory.Mixed.{IsMixedWorld}
use Rattle.law_world.proofs.lemmas.memory.FittingTexts.{texts_open_fitting}
use Rattle.law_world.proofs.lemmas.memory.Texts.{texts_fit}
use Rattle.law_world.proofs.lemmas.memory.Together.{texts_stay_mixed}
use Rattle.claims_world.specs.HubPlans.{is_below, key_at}
use Rattle.law_microframes.specs.visits.Began.{began}
use Rattle.law_microframes.specs.visits.Belonging.{IsDescriptorAt}
use Rattle.law_microframes.specs.visits.Visited.{WasVisited, IsFramedAs, IsVisiting}
use Rattle.law_microframes.specs.time.Payments.{names_in}
use Rattle.law_microframes.specs.time.PaymentLaws.{IsHandPaid, IsPassing, ArePaidByHand}
use Rattle.law_microframes.specs.translators.Keeping.{SitdsFollow, PartsAreLacked}
use Rattle.law_microframes.specs.translators.Laws.{SitdsFollowToo}
use Rattle.law_microframes.proofs.lemmas.plans.Keys.{kept_apart, texts_plan_apart}
use Rattle.law_microframes.proofs.lemmas.plans.Right.{scripts_place_right}
use Rattle.law_microframes.proofs.lemmas.visits.OneDescriptorMoments.{each_moment_has_one_active}
use Rattle.law_microframes.proofs.lemmas.visits.VisitTexts.{lines_fit}
use Rattle.law_microframes.proofs.lemmas.visits.VisitsKept.{scripts_visit}
use Rattle.law_microframes.proofs.lemmas.time.PaymentMoments.{ArePaidIn, payments_are_of_visits, scripts_are_paid}
use Rattle.law_microframes.proofs.lemmas.time.PaymentOpens.{scripts_have_periodics}
use Rattle.law_microframes.proofs.lemmas.time.SitdMoments.{scripts_keep_sitds}
use Rattle.law_microframes.proofs.lemmas.time.SitdParts.{works}
use Rattle.law_microframes.proofs.lemmas.time.SlotTexts.{texts_fit_slots}
use Rattle.law_microframes.proofs.lemmas.due.lemmas.repeats.BusMoments.{each_bus_hears}
use Rattle.law_microframes.proofs.lemmas.due.lemmas.repeats.Endpoints.{texts_stand}
use Rattle.law_microframes.proofs.lemmas.translators.FrameIndex.{scripts_have_index}
use Rattle.law_microframes.proofs.lemmas.translators.SitdHands.{sitd_fair}

hand_paid : {b : World} {d : DriverContent} {now index : ℕ} (h : HeldSitd) (o : Option Hand) (ps : List (ℕ × ℕ)) → o ≡ Some (hands.Sitd h)
    → h.sitd.active ≡ true → ArePaidByHand b d now index o ps → IsHandPaid b d now index (hands.Sitd h) ps
hand_paid {b} {d} {now} {index} h o ps is on paid =
    ⊎_elim {C = IsHandPaid b d now index (hands.Sitd h) ps} (λ (one : IsHandPaid b d now index (hands.Sitd h) ps). one)
    (λ (none : IsPassing (hands.Sitd h) ps). absurd (true≢false (sym on ∙ none.idle.1)))
    (subst (λ (z : Option Hand). ArePaidByHand b d now index z ps) is paid)

-- the frame of the newest visit to a descriptor
first_framed : (d : DriverContent) (left : ℕ → Option Kind) (who : ℕ → Member) (frame : ℕ) (vs rest : List ℕ) (a : ℕ) → vs ≡ a ∷ rest
    → AllByRecursion (WasVisited d left who frame) vs → AllByRecursion (λ v. IsFramedAs d v (who v)) vs → (q : IsDescriptorAt d a)
    → frame ≡ (note_at d.periodic.notes q.transfer.first).frame
first_framed d left who frame vs rest a is were framed q =
    let v = (subst (AllByRecursion (WasVisited d left who frame)) is were).0 in
    let f = (subst (AllByRecursion (λ v. IsFramedAs d v (who v))) is framed).0 in
    f q.number q.transfer q.there q.sort q.held q.name frame v.stands

module _ (text : List ℕ) (s : Script) (spelled : Spells text s) (k : ℕ) where
  abbrev o : World
  o = (moment s k).world

  moment_framed : o.control.part ≡ Periodic → (h : HeldSitd) → o.control.frame.hand ≡ Some (hands.Sitd h) → h.sitd.active ≡ true
      → (q : IsDescriptorAt o.driver h.at) → frame_in o.control.frame.index ≡ (note_at o.driver.periodic.notes q.transfer.first).frame
  moment_framed periodic h held on =
      let fit = spelled_fits text s spelled in
      let bytes = a_text_spells_bytes text s spelled in
      let opens = lines_fit s.lines (texts_fit text s spelled) (texts_open_fitting text s spelled) in
      let paid : ArePaidIn (began s k) o (payments s k) = scripts_are_paid s fit bytes opens (texts_fit_slots text s spelled) k in
      let one = hand_paid h o.control.frame.hand (payments s k) held on (paid.hand periodic) in
      let visits : IsVisiting (began s k) o (visited s k) = scripts_visit s fit bytes opens k in
      let are : visited s k ≡ one.address ∷ names_in one.rest = sym (payments_are_of_visits s k) ∙ ap names_in one.are in
      subst (λ (a : ℕ). (q : IsDescriptorAt o.driver a) → frame_in o.control.frame.index ≡
      (note_at o.driver.periodic.notes q.transfer.first).frame)
      (sym one.at)
      (first_framed o.driver visits.visits.left visits.visits.who (frame_in o.control.frame.index) (visited s k) (names_in one.rest)
      one.address are visits.visits.behind.were visits.visits.were_framed)

  moment_sitds : PartsAreLacked o → SitdsFollow o
  moment_sitds lacked h periodic held unset work =
      let fit = spelled_fits text s spelled in
      let bytes = a_text_spells_bytes text s spelled in
      let opens = lines_fit s.lines (texts_fit text s spelled) (texts_open_fitting text s spelled) in
      let slots = texts_fit_slots text s spelled in
      let mixed : IsMixedWorld o = texts_stay_mixed text s spelled k in
      let on = (works h.sitd.active (sitd_missed (o.registers.frame_index % 8) h.sitd)
      (comes (o.registers.frame_index % 8) h.sitd) work).0 in
      sitd_fair s mixed.standing o mixed.mixed (scripts_keep_sitds s fit bytes opens slots k)
      (each_moment_has_one_active s fit bytes opens k).one.served (scripts_have_periodics s fit bytes opens k)
      (texts_stand text s spelled k)
      (λ x heard. each_bus_hears s x heard k) (scripts_place_right s fit k)
      (λ hub port f. kept_apart (key_at o.driver) (is_below hub port f) o.driver.periodic.plan.placed (texts_plan_apart text s spelled k))
      periodic (scripts_have_index s fit k periodic) h held unset work (moment_framed periodic h held on)
      (λ way some. lacked h periodic held unset work way some)

pub sitds_follow : SitdsFollowToo
sitds_follow text s spelled k lacked = moment_sitds text s spelled k lacked
