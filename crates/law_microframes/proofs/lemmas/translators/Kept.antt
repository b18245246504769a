-- What holds of a frame's pipeline by the laws of one translator, with what is told of the key of each of its entries.
use Rattle.std.proofs.Common.{ℕ, ◌-◌, Bool, true, false, List, [], ◌∷◌, ◌++◌, length, inl, inr}
use Rattle.std.proofs.lemmas.Bool.{cases_Bool}
use Rattle.usb_base.specs.declared.packets.Ask.{Ask}
use Rattle.usb_base.specs.declared.packets.Reply.{Reply}
use Rattle.hub_keys.specs.Keys.{key_of}
use Rattle.hub_keys.specs.declared.key.Key.{Key}
use Rattle.tt_pipeline.specs.declared.entry.Entry.{Entry}
use Rattle.tt_pipeline.specs.declared.rows.AnswerRow.{AnswerRow}
use Rattle.tt_pipeline.specs.declared.rows.AnswerRow.TheVariants as rows
use Rattle.tt_pipeline.specs.declared.rows.StartRow.{StartRow}
use Rattle.tt_pipeline.specs.declared.rows.StartRow.TheVariants.{Enters, Joins, Forgotten}
use Rattle.tt_pipeline.specs.Answers.{answer_row, given_at, given}
use Rattle.tt_pipeline.specs.Starting.{with_first, without_first, start_row}
use Rattle.tt_pipeline.specs.Work.{fresh, joined, moved, is_due, answered}
use Rattle.tt_pipeline.specs.Working.{budget, used_at, first_reply, later_replies}
use Rattle.hub_class.specs.HubContent.{HubContent}
use Rattle.law_translator.specs.Plans.{Fits}
use Rattle.claims_world.specs.Plans.{Plan}
use Rattle.law_translator.specs.Frames.{Event, Start, Complete, Work, Drop, Replan, Clear, Frame, is_of, changed, begun, worked_all, next, entries_of}
use Rattle.claims_world.specs.Watched.{Watched}
use Rattle.law_translator.specs.Premises.{IsLaidAs, AllLaidAs}
use Rattle.law_translator.proofs.Holds.{Holds}
use Rattle.law_translator.proofs.Keeps.{keeps, opening_holds}
use Rattle.law_translator.proofs.KeepsStuffed.{HoldsStuffed, stuffed_keeps, stuffed_opening}
use Rattle.law_translator.proofs.Owing.{Coming}
use Rattle.law_translator.proofs.Work.{All, AllOwe}
use Rattle.law_microframes.specs.translators.Watching.{HasKey, HaveKeys, WithKeys, frame_of, HubHolds, HubsHold}
use Rattle.claims_world.specs.Gaps.{watched_of}
use Rattle.claims_world.specs.Pipelines.{port_at}
use Rattle.law_microframes.proofs.lemmas.translators.Watching.{StartIsOwn, IsKept}
use Rattle.law_microframes.proofs.lemmas.translators.Hubs.{at_more}

-- ---- the two laws

abbrev pub Any : Key → Type 0
Any k = Unit {0}

owed_comes : (p : Plan) (now : ℕ) (ws : List Watched) → AllOwe p now ws → All (Coming 0 p now) ws
owed_comes p now [] owe = tt
owed_comes p now (w ∷ ws) owe = (owe.0.comes, owed_comes p now ws owe.1)

pub holds_kept : IsKept 0 Any Holds
holds_kept = record {
  opens = λ p fits. opening_holds p fits;
  keeps = λ f event h fair own. keeps f event h fair;
  distinct = λ f h. h.distinct;
  comes = λ f h. owed_comes f.plan f.now f.watched h.owe;
}

pub stuffed_kept : IsKept 6 Any HoldsStuffed
stuffed_kept = record {
  opens = λ p fits. stuffed_opening p fits;
  keeps = λ f event h fair own. stuffed_keeps f event h fair;
  distinct = λ f h. h.distinct;
  comes = λ f h. h.comes;
}

-- ---- with what is told of keys

module _ (Q : Key → Type 0) where
  have_without : (k : Key) (ws : List Watched) → HaveKeys Q ws → HaveKeys Q (without_first (is_of k) ws)
  have_without k [] all = tt
  have_without k (w ∷ ws) all =
      elim (cases_Bool (is_of k w)) [ inl on ↦ rw on all.1 | inr off ↦ rw off (all.0, have_without k ws all.1) ]

  have_snoc : (ws : List Watched) (w : Watched) → HaveKeys Q ws → HasKey Q w → HaveKeys Q (ws ++ w ∷ [])
  have_snoc [] w all one = (one, tt)
  have_snoc (v ∷ ws) w all one = (all.0, have_snoc ws w all.1 one)

  have_with : (k : Key) (f : Entry → Entry) (ws : List Watched) → ((w : Watched) → HasKey Q w → HasKey Q (changed f w)) → HaveKeys Q ws
      → HaveKeys Q (with_first (is_of k) (changed f) ws)
  have_with k f [] stays all = tt
  have_with k f (w ∷ ws) stays all =
      elim (cases_Bool (is_of k w)) [
        | inl on ↦ rw on (stays w all.0, all.1)
        | inr off ↦ rw off (all.0, have_with k f ws stays all.1)
      ]

  have_begun : (row : StartRow) (ask : Ask) (bytes : List ℕ) (stuff : ℕ) (ws : List Watched) → Q (key_of ask) → HaveKeys Q ws
      → HaveKeys Q (begun row ask bytes stuff ws)
  have_begun Enters ask bytes stuff ws own all =
      have_snoc (without_first (is_of (key_of ask)) ws) (record { entry = fresh ask bytes stuff; gaps = 0 })
      (have_without (key_of ask) ws all) own
  have_begun Joins ask bytes stuff ws own all = have_with (key_of ask) (joined ask bytes) ws (λ w q. q) all
  have_begun Forgotten ask bytes stuff ws own all = all

  given_key : (row : AnswerRow) (w : Watched) → HasKey Q w → HasKey Q (changed (given_at row) w)
  given_key rows.NotYet w q = q
  given_key rows.Result w q = q
  given_key rows.Unheard w q = q
  given_key rows.More w q = q
  given_key rows.Last w q = q

  answered_key : (b : Bool) (reply : Reply) (m : Entry) → Q m.key → Q (answered b reply m).key
  answered_key true reply m q = q
  answered_key false reply m q = q

  have_worked : (room : ℕ) (replies : List Reply) (ws : List Watched) → HaveKeys Q ws → HaveKeys Q (worked_all room replies ws)
  have_worked room replies [] all = tt
  have_worked room replies (w ∷ ws) all = (
    answered_key (is_due (moved room w.entry)) (first_reply replies) (moved room w.entry) all.0,
    have_worked (room - used_at room w.entry) (later_replies replies) ws all.1,
  )

  have_after : (f : Frame) (event : Event) → StartIsOwn Q event → HaveKeys Q f.watched → HaveKeys Q (next f event).watched
  have_after f (Start ask bytes stuff) own all =
      have_begun (start_row ask (length bytes) (entries_of f.watched)) ask bytes stuff f.watched own all
  have_after f (Complete key) own all = have_with key given f.watched (λ w q. given_key (answer_row w.entry) w q) all
  have_after f (Work replies) own all = have_worked budget replies f.watched all
  have_after f (Drop plan) own all = tt
  have_after f (Replan plan) own all = all
  have_after f Clear own all = tt

pub kept_with : (most : ℕ) (Q : Key → Type 0) (H : Frame → Type 0) → IsKept most Any H → IsKept most Q (WithKeys Q H)
kept_with most Q H is = record {
  opens = λ p fits. (is.opens p fits, tt);
  keeps = λ f event h fair own. (is.keeps f event h.0 fair (any event), have_after Q f event own h.1);
  distinct = λ f h. is.distinct f h.0;
  comes = λ f h. is.comes f h.0;
}
  where
    any : (event : Event) → StartIsOwn Any event
    any (Start ask bytes stuff) = tt
    any _ = tt

-- ---- the plans change, and what is told of keys

module _ (most : ℕ) (H : Frame → Type 0) (is : IsKept most Any H) (Q R : ℕ → ℕ → Key → Type 0) (plans later : ℕ → ℕ → Plan)
    (fits : (hub port : ℕ) → Fits (later hub port))
    (more : (hub port : ℕ) (k : Key) → Q hub port k → R hub port k × IsLaidAs (plans hub port) (later hub port) k) where
  laid_all : (hub port : ℕ) (g : Key → ℕ) (es : List Entry) → HaveKeys (Q hub port) (watched_of g es)
      → AllLaidAs (plans hub port) (later hub port) (watched_of g es) × HaveKeys (R hub port) (watched_of g es)
  laid_all hub port g [] all = (tt, tt)
  laid_all hub port g (e ∷ es) all =
      let m = more hub port e.key all.0 in
      let rest = laid_all hub port g es all.1 in
      ((m.1, rest.0), (m.0, rest.1))

  pub hubs_replan : (now : ℕ) (g : ℕ → ℕ → Key → ℕ) (hs : List HubContent) → HubsHold (λ hub port. WithKeys (Q hub port) H) plans now g hs
      → HubsHold (λ hub port. WithKeys (R hub port) H) later now g hs
  hubs_replan now g hs all =
      at_more (λ i h. HubHolds (λ hub port. WithKeys (Q hub port) H) plans now (g i) h)
      (λ i h. HubHolds (λ hub port. WithKeys (R hub port) H) later now (g i) h) hs
      (λ i h here one.
      at_more (λ j t. WithKeys (Q h.address (port_at h.translators.multi j)) H
      (frame_of (plans h.address (port_at h.translators.multi j)) now (g i j) t))
      (λ j t. WithKeys (R h.address (port_at h.translators.multi j)) H
      (frame_of (later h.address (port_at h.translators.multi j)) now (g i j) t)) h.translators.all
      (λ j t there w.
      let laid = laid_all h.address (port_at h.translators.multi j) (g i j) t.pipeline w.1 in (
        is.keeps (frame_of (plans h.address (port_at h.translators.multi j)) now (g i j) t)
            (Replan (later h.address (port_at h.translators.multi j))) w.0 (fits h.address (port_at h.translators.multi j), laid.0) tt,
        laid.1,
      )) one) all
