-- At each moment of a run what is known of it is counted, and no more events are ahead than those of a whole microframe.
use Rattle.std.proofs.Common.{◌≡◌, ◌≢◌, ℕ, zero, suc, ◌<◌, ◌≤◌, ◌⊎◌, inl, inr, true, false, List, [], ◌∷◌, length, ap, sym, subst, ◌∙◌, refl, arith}
use Rattle.script_types.specs.declared.scripts.Event.TheVariants as events
use Rattle.script_types.specs.declared.scripts.Script.{Script}
use Rattle.script_text.specs.Faults.{Spells}
use Rattle.script_fits.proofs.Texts.{spelled_fits}
use Rattle.law_scripts.proofs.lemmas.script_bytes.Texts.{a_text_spells_bytes}
use Rattle.async_walk.specs.declared.state.WalkStep.{WalkStep}
use Rattle.async_walk.specs.declared.state.WalkStep.TheVariants as walks
use Rattle.hc_core.specs.declared.controller.ControllerRow.{ControllerRow}
use Rattle.hc_core.specs.declared.controller.ControllerRow.TheVariants as rows
use Rattle.hc_core.specs.declared.controller.HcStep.{HcStep}
use Rattle.hc_core.specs.declared.controller.HcStep.TheVariants as steps
use Rattle.hc_core.specs.declared.controller.MicroframePart.{MicroframePart}
use Rattle.hc_core.specs.declared.controller.MicroframePart.TheVariants.{Over, Periodic, Asynchronous}
use Rattle.hc_core.specs.Controller.{Control, Content, new_control, entered, frame_step, hc_step, kind_of, part_after, walk_step}
use Rattle.bus_wire.specs.Bus.{Bus, Fixed, fixed_of}
use Rattle.bus_world.specs.World.{World, controller_parts, controller_row, controller_next, kind_next, turned_by}
use Rattle.bus_world.specs.Orders.{Left, Events, Microframes, Answer, Command, Plugs, OrderedWorld, is_end, tick, tick_at, ticks}
use Rattle.bus_world.specs.Budgets.{moment}
use Rattle.law_world.specs.memory.Mixed.{IsMixedWorld}
use Rattle.law_world.proofs.lemmas.memory.Texts.{texts_fit}
use Rattle.law_world.proofs.lemmas.memory.FittingTexts.{texts_open_fitting}
use Rattle.claims_world.specs.Carried.{carried_in}
use Rattle.claims_world.specs.Visits.{visits_after, visits_next, visited}
use Rattle.law_world.proofs.lemmas.memory.Carrying.{carried_then}
use Rattle.law_microframes.proofs.lemmas.visits.ReasonMoments.{next_moment}
use Rattle.law_microframes.proofs.lemmas.visits.ReasonParts.{command_control}
use Rattle.law_microframes.proofs.lemmas.visits.VisitTexts.{lines_fit}
use Rattle.law_microframes.proofs.lemmas.visits.VisitsKept.{scripts_visit}
use Rattle.law_microframes.specs.time.Rounds.{round_after, round_next, round}
use Rattle.claims_world.specs.Microframes.{most_blocks, microframe_whole}
use Rattle.law_microframes.specs.time.HeadReads.{heads_after, heads_next, heads, HeadsAreFew}
use Rattle.law_microframes.proofs.lemmas.time.CountVisits.{texts_visit_few}
use Rattle.law_microframes.proofs.lemmas.time.CountRounds.{texts_round_few}
use Rattle.law_microframes.proofs.lemmas.time.HeadReadMoments.{texts_read_few_heads}
use Rattle.law_microframes.specs.time.Ahead.{events_in, events_ahead, ahead, IsWithinTime, IsCounted, EachRowLowers}
use Rattle.law_microframes.proofs.lemmas.time.TurnBegins.{never_idle}

-- ---- what is known of a moment

-- .. whatever is ordered next
pub record IsCountedIn (fixed : Fixed) (w : World) (orders : List Left) (vs rs : List ℕ) (n : ℕ) : Type 0 where
  pub mixed : IsMixedWorld w
  pub heads : HeadsAreFew fixed w n
  pub time : IsWithinTime w
  pub visits : length (carried_in visits_next fixed w orders vs) ≤ most_blocks
  pub round : length (carried_in round_next fixed w orders rs) ≤ most_blocks

pub counted_by : (fixed : Fixed) (w : World) (n : ℕ) (rest : List Left) (vs rs : List ℕ) (h : ℕ) → IsCountedIn fixed w (Microframes (suc n) ∷ rest) vs rs h → IsCounted fixed w vs rs h
counted_by fixed w n rest vs rs h k = record { mixed = k.mixed; heads = k.heads; time = k.time; visits = k.visits; round = k.round }

counted_in_events : (fixed : Fixed) (w : World) (n : ℕ) (rest : List Left) (vs rs : List ℕ) (h : ℕ) → IsCountedIn fixed w (Events events.C (suc n) ∷ rest) vs rs h → IsCounted fixed w vs rs h
counted_in_events fixed w n rest vs rs h k = record { mixed = k.mixed; heads = k.heads; time = k.time; visits = k.visits; round = k.round }

abbrev pub AreCounted : Script → Type 0
AreCounted s = (k : ℕ) → IsCountedIn (fixed_of s) (moment s k).world (moment s k).orders (visited s k) (round s k) (heads s k)

pub texts_are_counted : (text : List ℕ) (s : Script) → Spells text s → ((k : ℕ) → IsWithinTime (moment s k).world) → AreCounted s
texts_are_counted text s spelled time k = record {
  mixed = (scripts_visit s (spelled_fits text s spelled) (a_text_spells_bytes text s spelled) (lines_fit s.lines (texts_fit text s spelled) (texts_open_fitting text s spelled)) k).mixed;
  heads = texts_read_few_heads text s spelled k;
  time = time k;
  visits =
      subst (λ (xs : List ℕ). length xs ≤ most_blocks) (carried_then visits_next s [] k)
      (texts_visit_few text s spelled (suc k));
  round =
      subst (λ (xs : List ℕ). length xs ≤ most_blocks) (carried_then round_next s [] k)
      (texts_round_few text s spelled (suc k));
}

-- ---- the last event of a microframe

pub ended_or : (k : HcStep) → ((k ≡ steps.End) × (is_end k ≡ true)) ⊎ ((k ≢ steps.End) × (is_end k ≡ false))
ended_or steps.End = inl (refl, refl)
ended_or _ = inr ((λ e. cc), refl)

step_over : (part : MicroframePart) (step : WalkStep) → hc_step step ≡ steps.End → part_after part step ≡ Over
step_over part walks.Ended is = refl
step_over part walks.Fault is = refl
step_over part _ is = absurd cc

row_over : (fixed : Fixed) (row : ControllerRow) (c : Content) (b : Bus) → kind_of row c ≡ steps.End → (turned_by fixed row c b).content.control.part ≡ Over
row_over fixed rows.Frame c b is = step_over Periodic (frame_step c) is
row_over fixed rows.Enter c b is = step_over Asynchronous (walk_step (entered c)) is
row_over fixed rows.Go c b is = step_over Asynchronous (walk_step c) is
row_over fixed rows.End c b is = refl
row_over fixed _ c b is = absurd cc

-- ---- the events ahead, from one moment to the next

-- after what is ordered next
abbrev pub ahead_in : Fixed → World → List Left → List ℕ → List ℕ → ℕ → ℕ
ahead_in fixed w orders vs rs n = events_ahead (tick_at fixed w orders).world.control (carried_in visits_next fixed w orders vs) (carried_in round_next fixed w orders rs) (carried_in heads_next fixed w orders n)

-- .. after the controller's event
abbrev pub ahead_after : Fixed → World → List ℕ → List ℕ → ℕ → ℕ
ahead_after fixed w vs rs n =
    events_ahead (controller_next fixed w).control (visits_after (controller_row w) (controller_parts w) vs) (round_after (controller_row w) (controller_parts w) rs)
    (heads_after (controller_row w) (controller_parts w) n)

pub ahead_next : (s : Script) (k : ℕ) → ahead s (suc k) ≡ ahead_in (fixed_of s) (moment s k).world (moment s k).orders (visited s k) (round s k) (heads s k)
unfolding ahead
ahead_next s k =
    let now : OrderedWorld = moment s k in
    ap (λ (p : OrderedWorld). events_ahead p.world.control (visited s (suc k)) (round s (suc k)) (heads s (suc k))) (next_moment s k)
    ∙ ap (λ (vs : List ℕ). events_ahead (tick (fixed_of s) now).world.control vs (round s (suc k)) (heads s (suc k)))
    (carried_then visits_next s [] k)
    ∙ ap (λ (rs : List ℕ). events_ahead (tick (fixed_of s) now).world.control (carried_in visits_next (fixed_of s) now.world now.orders (visited s k)) rs (heads s (suc k)))
    (carried_then round_next s [] k)
    ∙ ap (λ (n : ℕ). events_ahead (tick (fixed_of s) now).world.control (carried_in visits_next (fixed_of s) now.world now.orders (visited s k)) (carried_in round_next (fixed_of s) now.world now.orders (round s k)) n)
    (carried_then heads_next s 0 k)

module _ (lowers : EachRowLowers) where
  pub event_lowers : (fixed : Fixed) (w : World) (vs rs : List ℕ) (n : ℕ) → IsCounted fixed w vs rs n → kind_next w ≢ steps.End → ahead_after fixed w vs rs n < events_ahead w.control vs rs n
  event_lowers fixed w vs rs n k goes = lowers (controller_row w) (never_idle w k.mixed) fixed w vs rs n k refl goes

  lower : (a b c : ℕ) → a < b → b ≤ c → a ≤ c
  lower a b c less top = omega (arith, less, top)

  whole_at : (part : MicroframePart) (c : Control) (vs rs : List ℕ) (n : ℕ) → part ≡ Over → events_in part c vs rs n ≤ microframe_whole
  whole_at part c vs rs n over =
      let whole : events_in part c vs rs n ≡ microframe_whole = ap (λ (x : MicroframePart). events_in x c vs rs n) over in
      omega (arith, whole)

  by_kind : (fixed : Fixed) (w : World) (vs rs : List ℕ) (n : ℕ) → IsCounted fixed w vs rs n → events_ahead w.control vs rs n ≤ microframe_whole
      → ((kind_next w ≡ steps.End) × (is_end (kind_next w) ≡ true)) ⊎ ((kind_next w ≢ steps.End) × (is_end (kind_next w) ≡ false)) → ahead_after fixed w vs rs n ≤ microframe_whole
  by_kind fixed w vs rs n k top (inl ends) =
      whole_at (controller_next fixed w).control.part (controller_next fixed w).control (visits_after (controller_row w) (controller_parts w) vs)
      (round_after (controller_row w) (controller_parts w) rs) (heads_after (controller_row w) (controller_parts w) n) (row_over fixed (controller_row w) (controller_parts w) w.bus ends.0)
  by_kind fixed w vs rs n k top (inr goes) = lower (ahead_after fixed w vs rs n) (events_ahead w.control vs rs n) microframe_whole (event_lowers fixed w vs rs n k goes.0) top

  event_bound : (fixed : Fixed) (w : World) (vs rs : List ℕ) (n : ℕ) → IsCounted fixed w vs rs n → events_ahead w.control vs rs n ≤ microframe_whole → ahead_after fixed w vs rs n ≤ microframe_whole
  event_bound fixed w vs rs n k top = by_kind fixed w vs rs n k top (ended_or (kind_next w))

  in_bound : (fixed : Fixed) (w : World) (orders : List Left) (vs rs : List ℕ) (n : ℕ) → IsCountedIn fixed w orders vs rs n → events_ahead w.control vs rs n ≤ microframe_whole
      → ahead_in fixed w orders vs rs n ≤ microframe_whole
  in_bound fixed w [] vs rs n k top = top
  in_bound fixed w (Events event zero ∷ rest) vs rs n k top = top
  in_bound fixed w (Events events.C (suc m) ∷ rest) vs rs n k top = event_bound fixed w vs rs n (counted_in_events fixed w m rest vs rs n k) top
  in_bound fixed w (Events events.D (suc m) ∷ rest) vs rs n k top = top
  in_bound fixed w (Microframes zero ∷ rest) vs rs n k top = top
  in_bound fixed w (Microframes (suc m) ∷ rest) vs rs n k top = event_bound fixed w vs rs n (counted_by fixed w m rest vs rs n k) top
  in_bound fixed w (Answer ended m ∷ rest) vs rs n k top = top
  in_bound fixed w (Command line cmd ∷ rest) vs rs n k top = subst (λ (c : Control). events_ahead c vs rs n ≤ microframe_whole) (sym (command_control w line cmd)) top
  in_bound fixed w (Plugs there port ∷ rest) vs rs n k top = top

  pub ahead_bound : (s : Script) → AreCounted s → (k : ℕ) → ahead s k ≤ microframe_whole
  unfolding ticks ahead
  ahead_bound s counted zero = whole_at Over new_control [] [] 0 refl
  ahead_bound s counted (suc k) =
      subst (λ (m : ℕ). m ≤ microframe_whole) (sym (ahead_next s k))
      (in_bound (fixed_of s) (moment s k).world (moment s k).orders (visited s k) (round s k) (heads s k) (counted k) (ahead_bound s counted k))
