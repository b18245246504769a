-- A control endpoint acts at most once between two SETUPs.
use Rattle.std.proofs.Common.{◌≡◌, ◌≢◌, ℕ, ◌==◌, ◌⊎◌, inl, inr, Bool, true, false, ◌&&◌, ◌||◌, not, if◌then◌else◌, List, [], ◌∷◌, ◌++◌, length, Option, Some, None, refl, sym, ap, ◌∙◌, subst}
use Rattle.std.proofs.Math.Bool.{false≢true}
use Rattle.std.specs.List.{list_any}
use Rattle.std.specs.Option.{option_to_list}
use Rattle.law_common.proofs.Booleans.{on_or_off}
use Rattle.usb_base.specs.declared.packets.Pid.{Pid}
use Rattle.dev_control.specs.declared.control.Request.{Request}
use Rattle.dev_control.specs.declared.rows.Sequence.{Sequence}
use Rattle.dev_control.specs.declared.rows.Sequence.TheVariants.{Next, Repeat}
use Rattle.dev_control.specs.declared.rows.Stage.{Stage}
use Rattle.dev_control.specs.declared.rows.Stage.TheVariants.{Refusing, Reading, AllRead, Writing, AllWritten, NoData}
use Rattle.dev_control.specs.declared.rows.StageRow.{StageRow}
use Rattle.dev_control.specs.declared.rows.StageRow.TheVariants.{Begins, Naks, Takes, Acknowledges, Confirms, Stalls}
use Rattle.dev_control.specs.declared.rows.StageToken.{StageToken}
use Rattle.dev_control.specs.declared.rows.StageToken.TheVariants as Tokens
use Rattle.dev_control.specs.Stages.{Stages, setup_of, token_of, stage_of, in_row, out_row, out_row_at, ping_row, is_status, far_with, sequence_of, row_by, stage_row, moved_to, acted_at, acted_with, acked_with, after_stage_row}
use Rattle.dev_control.proofs.Kept.{setup_stays, setup_stays_acked}
use Rattle.law_device.specs.Acts.{Event, Asks, Acks, after, is_setup, begins, is_status_row, acts_at, acts_along, is_within, counted}
use Rattle.claims_report.specs.Acts.{done_of, acts_if, IsOnce}

true_not_false : {A : Type 0} → true ≡ false → A
true_not_false h = absurd (false≢true (sym h))

-- ---- only a SETUP begins a request

abbrev is_begin : StageRow → Bool
is_begin (Begins setup) = true
is_begin _ = false

nak_begins_none : (none : Bool) (row : StageRow) → is_begin row ≡ false → is_begin (if none then row else Naks) ≡ false
nak_begins_none true row h = h
nak_begins_none false row h = refl

in_begins_none : (stage : Stage) → is_begin (in_row stage) ≡ false
in_begins_none Reading = refl
in_begins_none _ = refl

ping_begins_none : (stage : Stage) → is_begin (ping_row stage) ≡ false
ping_begins_none Refusing = refl
ping_begins_none _ = refl

out_begins_none : (stage : Stage) (sequence : Sequence) (status : Bool) (far : Option ℕ) → is_begin (out_row stage sequence status far) ≡ false
out_begins_none Reading _ true _ = refl
out_begins_none AllRead _ true _ = refl
out_begins_none Writing Next _ (Some to) = refl
out_begins_none Writing Repeat _ _ = refl
out_begins_none AllWritten Repeat _ _ = refl
out_begins_none _ _ _ _ = refl

out_at_begins_none : (stage : Stage) (u : Option Request) (pid : Pid) (n : ℕ) → is_begin (out_row_at stage u pid n) ≡ false
out_at_begins_none stage None pid n = refl
out_at_begins_none stage (Some u) pid n = out_begins_none stage (sequence_of u.toggle pid) (is_status pid n) (far_with u n)

begins_none : (token : StageToken) (stage : Stage) (c : Stages) (pid : Pid) (out : List ℕ) → is_setup token ≡ false → is_begin (row_by token stage c pid out) ≡ false
begins_none Tokens.Setup stage c pid out h = true_not_false h
begins_none Tokens.In stage c pid out h = nak_begins_none (c.naks == 0) (in_row stage) (in_begins_none stage)
begins_none Tokens.Out stage c pid out h = nak_begins_none (c.naks == 0) (out_row_at stage c.request pid (length out)) (out_at_begins_none stage c.request pid (length out))
begins_none Tokens.Ping stage c pid out h = nak_begins_none (c.naks == 0) (ping_row stage) (ping_begins_none stage)
begins_none Tokens.Other stage c pid out h = nak_begins_none (c.naks == 0) Stalls refl

not_setup : (token : StageToken) → is_setup token ≡ false → token ≢ Tokens.Setup
not_setup token h e = true_not_false (ap is_setup (sym e) ∙ h)

-- ---- whether the request was acted on, after a row

moved_done : (to : ℕ) (u : Option Request) → done_of (moved_to to u) ≡ done_of u
moved_done to None = refl
moved_done to (Some u) = refl

acted_at_done : (done : Bool) (u : Request) (c : Stages) → u.done ≡ done → c.request ≡ Some u → done_of (acted_at done u c).request ≡ true
acted_at_done true u c h e = ap done_of e ∙ h
acted_at_done false u c h e = refl

acted_with_done : (u : Option Request) (c : Stages) → c.request ≡ u → done_of (acted_with u c).request ≡ true
acted_with_done None c e = ap done_of e
acted_with_done (Some u) c e = acted_at_done u.done u c refl e

-- a status row acts, and no other does
status_done : (row : StageRow) (c : Stages) → is_status_row row ≡ true → done_of (after_stage_row row c).request ≡ true
status_done Acknowledges c h = acted_with_done c.request c refl
status_done Confirms c h = acted_with_done c.request c refl
status_done _ c h = absurd (false≢true h)

other_done : (row : StageRow) (c : Stages) → is_status_row row ≡ false → is_begin row ≡ false → done_of (after_stage_row row c).request ≡ done_of c.request
other_done Acknowledges c h k = true_not_false h
other_done Confirms c h k = true_not_false h
other_done (Begins setup) c h k = true_not_false k
other_done (Takes to) c h k = moved_done to c.request
other_done _ c h k = refl

acked_done : (stage : Stage) (u : Option Request) (c : Stages) → c.request ≡ u → done_of (acked_with stage u c).request ≡ done_of c.request
acked_done Reading (Some u) c e = sym (ap done_of e)
acked_done Reading None c e = refl
acked_done Refusing _ c e = refl
acked_done AllRead _ c e = refl
acked_done Writing _ c e = refl
acked_done AllWritten _ c e = refl
acked_done NoData _ c e = refl

-- ---- one event without a SETUP

setup_kept : (c : Stages) (event : Event) → begins event ≡ false → setup_of (after c event).request ≡ setup_of c.request
setup_kept c (Asks reply ask out) h = setup_stays reply c ask out (not_setup (token_of ask.pid) h)
setup_kept c (Acks reply) h = setup_stays_acked reply c

-- at an event: it acts on nothing and what was done stays so, or it acts on the request under way, which is done then
data Acted (setup : Option (List ℕ)) : Bool → Bool → List (List ℕ) → Type 0 where
  Nothing : (done : Bool) → Acted setup done done []
  Now : Acted setup false true (option_to_list setup)

row_acts : (row : StageRow) (c : Stages) (status done : Bool) → is_begin row ≡ false → is_status_row row ≡ status → done_of c.request ≡ done
    → Acted (setup_of c.request) done (done_of (after_stage_row row c).request) (if status && not done then option_to_list (setup_of c.request) else [])
row_acts row c true true k h e = subst (λ after. Acted (setup_of c.request) true after []) (sym (status_done row c h)) (Nothing true)
row_acts row c true false k h e = subst (λ after. Acted (setup_of c.request) false after (option_to_list (setup_of c.request))) (sym (status_done row c h)) Now
row_acts row c false true k h e = subst (λ after. Acted (setup_of c.request) true after []) (sym (other_done row c h k ∙ e)) (Nothing true)
row_acts row c false false k h e = subst (λ after. Acted (setup_of c.request) false after []) (sym (other_done row c h k ∙ e)) (Nothing false)

event_acts : (c : Stages) (event : Event) → begins event ≡ false → Acted (setup_of c.request) (done_of c.request) (done_of (after c event).request) (acts_at c event)
event_acts c (Asks reply ask out) h =
    row_acts (stage_row reply c ask out) c (is_status_row (stage_row reply c ask out)) (done_of c.request) (begins_none (token_of ask.pid) (stage_of reply c) c ask.toggle out h) refl refl
event_acts c (Acks reply) h = subst (λ after. Acted (setup_of c.request) (done_of c.request) after []) (sym (acked_done (stage_of reply c) c.request c refl)) (Nothing (done_of c.request))

-- ---- a run without a SETUP

first_within : (a b : Bool) → not (a || b) ≡ true → a ≡ false
first_within true b h = absurd (false≢true h)
first_within false b h = refl

rest_within : (a b : Bool) → not (a || b) ≡ true → not b ≡ true
rest_within true b h = absurd (false≢true h)
rest_within false b h = h

acted_when_done : (setup : Option (List ℕ)) (done later : Bool) (acts : List (List ℕ)) → Acted setup done later acts → done ≡ true → (acts ≡ []) × (later ≡ true)
acted_when_done setup _ _ _ (Nothing done) e = (refl, e)
acted_when_done setup _ _ _ Now e = absurd (false≢true e)

acted_when_open : (setup : Option (List ℕ)) (done later : Bool) (acts : List (List ℕ)) → Acted setup done later acts → done ≡ false
    → ((acts ≡ []) × (later ≡ false)) ⊎ ((acts ≡ option_to_list setup) × (later ≡ true))
acted_when_open setup _ _ _ (Nothing done) e = inl (refl, e)
acted_when_open setup _ _ _ Now e = inr (refl, refl)

-- once the request was acted on, or where there is none, nothing more is
none_after : (c : Stages) (events : List Event) → done_of c.request ≡ true → is_within events ≡ true → acts_along c events ≡ []
none_after c [] done within = refl
none_after c (e ∷ es) done within =
    let first : begins e ≡ false = first_within (begins e) (list_any begins es) within in
    let step : (acts_at c e ≡ []) × (done_of (after c e).request ≡ true) = acted_when_done (setup_of c.request) (done_of c.request) (done_of (after c e).request) (acts_at c e) (event_acts c e first) done in
    ap (λ acts. acts ++ acts_along (after c e) es) step.0 ∙ none_after (after c e) es step.1 (rest_within (begins e) (list_any begins es) within)

-- before, at most one act is left
once_before : (c : Stages) (setup : List ℕ) (events : List Event) → setup_of c.request ≡ Some setup → done_of c.request ≡ false → is_within events ≡ true → IsOnce setup (acts_along c events)
once_before c setup [] has open_ within = inl refl
once_before c setup (e ∷ es) has open_ within =
    let first : begins e ≡ false = first_within (begins e) (list_any begins es) within in
    let rest : is_within es ≡ true = rest_within (begins e) (list_any begins es) within in
    elim (acted_when_open (setup_of c.request) (done_of c.request) (done_of (after c e).request) (acts_at c e) (event_acts c e first) open_) [
      | inl step ↦ subst (λ acts. IsOnce setup (acts ++ acts_along (after c e) es)) (sym step.0) (once_before (after c e) setup es (setup_kept c e first ∙ has) step.1 rest)
      | inr step ↦ inr (ap (λ acts. acts ++ acts_along (after c e) es) (step.0 ∙ ap option_to_list has) ∙ ap (λ acts. setup ∷ acts) (none_after (after c e) es step.1 rest))
    ]

pub acts_once : (c : Stages) (setup : List ℕ) (events : List Event) → setup_of c.request ≡ Some setup → is_within events ≡ true → IsOnce setup (acts_along c events)
acts_once c setup events has within = elim (on_or_off (done_of c.request)) [
  | inl done ↦ inl (none_after c events done within)
  | inr open_ ↦ once_before c setup events has open_ within
]

pub acts_on_nothing : (c : Stages) (events : List Event) → c.request ≡ None → is_within events ≡ true → acts_along c events ≡ []
acts_on_nothing c events none within = none_after c events (ap done_of none) within

-- ---- the count

acted_at_counts : (done : Bool) (u : Request) (c : Stages) → (acted_at done u c).acted ≡ counted (if true && not done then u.setup ∷ [] else []) c.acted
acted_at_counts true u c = refl
acted_at_counts false u c = refl

acted_with_counts : (u : Option Request) (c : Stages) → (acted_with u c).acted ≡ counted (acts_if true u) c.acted
acted_with_counts None c = refl
acted_with_counts (Some u) c = acted_at_counts u.done u c

row_counts : (row : StageRow) (c : Stages) → (after_stage_row row c).acted ≡ counted (acts_if (is_status_row row) c.request) c.acted
row_counts Acknowledges c = acted_with_counts c.request c
row_counts Confirms c = acted_with_counts c.request c
row_counts _ c = refl

acked_counts : (stage : Stage) (u : Option Request) (c : Stages) → (acked_with stage u c).acted ≡ c.acted
acked_counts Reading (Some u) c = refl
acked_counts Reading None c = refl
acked_counts Refusing _ c = refl
acked_counts AllRead _ c = refl
acked_counts Writing _ c = refl
acked_counts AllWritten _ c = refl
acked_counts NoData _ c = refl

pub acts_are_counted : (c : Stages) (event : Event) → (after c event).acted ≡ counted (acts_at c event) c.acted
acts_are_counted c (Asks reply ask out) = row_counts (stage_row reply c ask out) c
acts_are_counted c (Acks reply) = acked_counts (stage_of reply c) c.request c
