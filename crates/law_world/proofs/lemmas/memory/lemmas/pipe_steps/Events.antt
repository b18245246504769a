-- Both sides of each pipe agree after an event of either walk, with the packets that it moved.
use Rattle.std.proofs.Common.{◌≡◌, ◌≢◌, ℕ, ◌==◌, Bool, true, false, if◌then◌else◌, List, [], ◌∷◌, ◌++◌, Option, ap, refl, sym, subst, ◌∙◌, ⊎_elim, inl, inr}
use Rattle.std.specs.List.{concat}
use Rattle.std.proofs.lemmas.Bool.{cases_eq, eq-eqb, false≢true}
use Rattle.std.proofs.lemmas.List.{append_assoc, append-nil}
use Rattle.law_common.proofs.Numbers.{other_number}
use Rattle.law_controller.proofs.Common.{none_still}
use Rattle.usb_base.specs.declared.packets.Ask.{Ask}
use Rattle.usb_base.specs.declared.packets.Reply.{Reply}
use Rattle.drv_table.specs.DriverContent.{DriverContent}
use Rattle.hc_core.specs.Controller.{Content}
use Rattle.law_structures.specs.lent_structures.Structures.{StructureSets}
use Rattle.law_structures.specs.lent_structures.Alters.{Alters}
use Rattle.law_ring.specs.Hand.{Hand}
use Rattle.claims_base.specs.Controller.{Base}
use Rattle.law_ring.specs.Effects.{came_to, buffer_of}
use Rattle.law_ring.specs.QueueParts.{IsQueuePart}
use Rattle.law_ring.specs.Told.{Endpoint as Told, HasEndpoint}
use Rattle.law_ring.specs.Streams.{moved_bytes}
use Rattle.law_ring.specs.Streams.StreamEffect.{same, aside, grows}
use Rattle.law_ring.specs.Bus.{Sender, IsStreamAsk, IsBus, KeepsSenders}
use Rattle.law_ring.specs.Pipes.{IsPipe, ArePiped, grown}
use Rattle.law_ring.specs.OutBus.{Taker, IsOutAsk, IsOutBus, KeepsTakers}
use Rattle.law_ring.specs.OutPipes.{IsOutPipe}
use Rattle.law_ring.specs.OutPipeLaws.{SendsNone, IsOnlyEndpoint}
use Rattle.law_controller.specs.controlled_streams.Kept.{KeepsEach}
use Rattle.law_frames.specs.Met.{Kind}
use Rattle.law_frames.specs.FrameHand.{FrameHand}
use Rattle.law_frames.specs.FrameStreams.{IsIsoAsk}
use Rattle.law_controller.specs.frame_control.Both.{RunsBoth, BothEffect}
use Rattle.law_controller.specs.frame_control.Joined.{joined, BothStreamEffect, begun, moved}
use Rattle.law_descriptors.specs.Both.{both, parts_now}
use Rattle.law_descriptors.specs.PartLaws.{IsDescribing}
use Rattle.law_descriptors.specs.queue_events.Streams.{bytes_of_both}
use Rattle.law_descriptors.specs.queue_events.Pipes.{IsBothToldBy, BothPipes, AskedAreNear}
use Rattle.law_descriptors.specs.queue_events.OutPipes.{OutPipeGoesOn}
use Rattle.law_descriptors.proofs.lemmas.queue_events.Events.{both_keeps_structures}
use Rattle.law_descriptors.proofs.lemmas.queue_events.OutPipes.{both_keep_out_pipes}
use Rattle.law_descriptors.proofs.lemmas.queue_events.Pipes.{both_keep_pipes}
use Rattle.law_world.specs.steps.Outs.{IsAside}
use Rattle.law_world.proofs.lemmas.steps.Joining.{only_at}
use Rattle.law_world.specs.memory.pipe_steps.Pipes.{PipesStand}
use Rattle.law_world.specs.memory.pipe_steps.Events.{PipesGoOn, EventKeepsPipes}

-- ---- lists of packets

concat_more : (xs ys : List (List ℕ)) → concat (xs ++ ys) ≡ concat xs ++ concat ys
concat_more [] ys = refl
concat_more (x ∷ xs) ys = ap (λ (zs : List ℕ). x ++ zs) (concat_more xs ys) ∙ sym (append_assoc x (concat xs) (concat ys))

concat_one : (xs : List (List ℕ)) (x : List ℕ) → concat (xs ++ (x ∷ [])) ≡ concat xs ++ x
concat_one xs x = concat_more xs (x ∷ []) ∙ ap (λ (ys : List ℕ). concat xs ++ ys) (append-nil x)

-- ---- the bytes of an event

none_grown : (at : ℕ) (more : List (List ℕ)) (acc : ℕ → List (List ℕ)) → more ≡ [] → (n : ℕ)
    → concat (grown acc at more n) ≡ concat (acc n) ++ []
none_grown at more acc none n = by (n == at) ∙ sym (append-nil (concat (acc n)))
  where
    by : (b : Bool) → concat (if b then acc n ++ more else acc n) ≡ concat (acc n)
    by true = ap (λ (xs : List (List ℕ)). concat (acc n ++ xs)) none ∙ ap concat (append-nil (acc n))
    by false = refl

-- these bytes moved of the queue head at `one`
module _ (ins : ℕ → Bool) (at : ℕ) (more : List (List ℕ)) (acc : ℕ → List (List ℕ)) (one : ℕ) (bytes : List ℕ) where
  grown_here : at ≡ one → bytes ≡ concat more → (n : ℕ)
      → concat (grown acc at more n) ≡ concat (acc n) ++ (if one == n then bytes else [])
  grown_here is all n =
      ⊎_elim
      (λ (same_one : n ≡ one).
      ap (λ (b : Bool). concat (if b then acc n ++ more else acc n)) (eq-eqb n at (same_one ∙ sym is)) ∙ concat_more (acc n) more
      ∙ ap (λ (ys : List ℕ). concat (acc n) ++ ys) (sym all)
      ∙ ap (λ (b : Bool). concat (acc n) ++ (if b then bytes else [])) (sym (eq-eqb one n (sym same_one))))
      (λ (differs : n ≢ one).
      ap (λ (b : Bool). concat (if b then acc n ++ more else acc n)) (other_number n at (λ e. differs (e ∙ is)))
      ∙ sym (append-nil (concat (acc n)))
      ∙ ap (λ (b : Bool). concat (acc n) ++ (if b then bytes else [])) (sym (other_number one n (λ e. differs (sym e)))))
      (cases_eq n one)

  -- it has no stream, and nothing is told of it
  grown_beside : more ≡ [] → ins one ≡ false → (n : ℕ) → ins n ≡ true
      → concat (grown acc at more n) ≡ concat (acc n) ++ (if one == n then bytes else [])
  grown_beside none off n on =
      none_grown at more acc none n ∙ ap (λ (b : Bool). concat (acc n) ++ (if b then bytes else []))
      (sym (other_number one n (λ e. false≢true (sym off ∙ ap ins e ∙ on))))

  grown_by : (b : Bool) → ins one ≡ b → ((ins one ≡ true → (at ≡ one) × (bytes ≡ concat more)) × (ins one ≡ false → more ≡ []))
      → (n : ℕ) → ins n ≡ true → concat (grown acc at more n) ≡ concat (acc n) ++ (if one == n then bytes else [])
  grown_by true has told n on = grown_here (told.0 has).0 (told.0 has).1 n
  grown_by false off told n on = grown_beside (told.1 off) off n on

grown_told : {W : Type 0} {begins : W → ℕ → Bool → W → Type 0} {Beside : Ask → Type 0} {transacts : W → Ask → List ℕ → Reply → W → Type 0}
    {parts : StructureSets} {hand : Hand} {wire after : W} {now : StructureSets} {later : Hand} (ins : ℕ → Bool) (at : ℕ)
    (more : List (List ℕ)) (acc : ℕ → List (List ℕ)) (z : BothStreamEffect begins Beside transacts parts hand wire after now later)
    → IsBothToldBy ins at more z → (n : ℕ) → ins n ≡ true → concat (grown acc at more n) ≡ concat (acc n) ++ bytes_of_both n z
grown_told ins at more acc (begun index allowed asked told) none n on = none_grown at more acc none n
grown_told ins at more acc (moved (same told quiet)) none n on = none_grown at more acc none n
grown_told ins at more acc (moved (aside told ask out reply beside made)) none n on = none_grown at more acc none n
grown_told {parts = parts} ins at more acc (moved (grows m all g)) told n on =
    grown_by ins at more acc m.copy.at (moved_bytes m.copy.queue m.sent.element (came_to m) (buffer_of (parts m.copy.at) m.sent.element))
    (ins m.copy.at) refl told n on

named_still : {W : Type 0} {begins : W → ℕ → Bool → W → Type 0} {Beside : Ask → Type 0} {transacts : W → Ask → List ℕ → Reply → W → Type 0}
    {parts : StructureSets} {hand : Hand} {wire after : W} {now : StructureSets} {later : Hand} (n : ℕ) (x : Told)
    → BothStreamEffect begins Beside transacts parts hand wire after now later → HasEndpoint parts n x → HasEndpoint now n x
named_still n x (begun index allowed asked told) has = told.endpoint n x has
named_still n x (moved (same told quiet)) has = told.endpoint n x has
named_still n x (moved (aside told ask out reply beside made)) has = told.endpoint n x has
named_still n x (moved (grows m all g)) has = subst (λ (ps : StructureSets). HasEndpoint ps n x) (sym all) has

-- ---- the event

module _ {W : Type 0} (begins : W → ℕ → Bool → W → Type 0) (transacts : W → Ask → List ℕ → Reply → W → Type 0)
    (sender : W → ℕ → ℕ → Option Sender) (taker : W → ℕ → ℕ → Option Taker) (sends takes : ℕ → ℕ → Bool)
    (packets : ℕ → ℕ → List (List ℕ)) (near ins outs : ℕ → Bool) (ends : ℕ → Told) (acc : ℕ → List (List ℕ)) (base : Base)
    (member : ℕ → Bool) (met : ℕ → Option Kind) (d : DriverContent) (descs parts : StructureSets) (hand : Hand) (frame : FrameHand)
    (c : Content) (wire after : W) (now : StructureSets) (later : Hand) (frame_later : FrameHand) (bus : IsBus transacts sends sender)
    (keeps : KeepsSenders begins sends sender) (out_bus : IsOutBus transacts takes taker) (out_keeps : KeepsTakers begins takes taker)
    (describing : IsDescribing d descs parts) (runs : RunsBoth base member met (both descs parts) hand frame c)
    (effect : BothEffect begins transacts (both descs parts) c.control hand frame wire after now later frame_later)
    (asked : AskedAreNear near parts (joined hand frame))
    (misses : (ask : Ask) → IsIsoAsk (both descs parts) ask → IsStreamAsk sends ask → ⊥)
    (out_misses : (ask : Ask) → IsIsoAsk (both descs parts) ask → IsOutAsk takes ask → ⊥)
    (whole : (n : ℕ) → outs n ≡ true → IsQueuePart n (parts n) × IsQueuePart n (parts_now descs parts now n))
    (z : BothStreamEffect begins (IsIsoAsk (both descs parts)) transacts parts (joined hand frame) wire after (parts_now descs parts now)
    (joined later frame_later))
    (k : PipesStand sends takes packets sender taker near ins outs ends acc parts (joined hand frame) wire) where
  abbrev hand_then : Hand
  hand_then = joined later frame_later

  abbrev parts_then : StructureSets
  parts_then = parts_now descs parts now

  r : BothPipes sends packets sender near ins ends acc z
  r = both_keep_pipes begins transacts sends packets sender near ins ends acc base member met descs parts hand frame c wire after now
      later frame_later k.in_ends bus keeps runs effect asked misses z k.in_pipes

  abbrev moves : ℕ → List (List ℕ)
  moves n = if ins n then grown acc r.at r.more n else acc n ++ (bytes_of_both n z ∷ [])

  adds_by : (n : ℕ) (b : Bool) → ins n ≡ b
      → concat (if b then grown acc r.at r.more n else acc n ++ (bytes_of_both n z ∷ [])) ≡ concat (acc n) ++ bytes_of_both n z
  adds_by n true on = grown_told ins r.at r.more acc z r.told n on
  adds_by n false off = concat_one (acc n) (bytes_of_both n z)

  adds : (n : ℕ) → concat (moves n) ≡ concat (acc n) ++ bytes_of_both n z
  adds n = adds_by n (ins n) refl

  in_pipes : ArePiped sends packets sender near ins ends moves parts_then hand_then after
  in_pipes = record {
    pipes = λ n on. subst (λ (xs : List (List ℕ)). IsPipe (packets (ends n).addr (ends n).ep)
        (sender after (ends n).addr (ends n).ep) xs parts_then hand_then n (ends n))
        (sym (ap (λ (b : Bool). if b then grown acc r.at r.more n else acc n ++ (bytes_of_both n z ∷ [])) on)) (r.all.pipes n on);
    others = r.all.others;
  }

  alters : (n : ℕ) → Alters (parts n) (parts_now descs parts now n)
  alters n =
      let kept : KeepsEach parts (parts_now descs parts now) =
      both_keeps_structures begins transacts base member met descs parts hand frame c wire after now later frame_later runs effect in
      (kept n).alters

  only : (n : ℕ) → outs n ≡ true → IsOnlyEndpoint takes near parts n (ends n)
  only n on = only_at takes near outs ends parts k.out_ends (λ i also. (k.out_pipes.pipes i also).named) k.out_pipes.others n on

  out_pipe : (n : ℕ) → outs n ≡ true → IsOutPipe (taker after (ends n).addr (ends n).ep) (concat (moves n)) parts_then hand_then n (ends n)
  out_pipe n on =
      let part = whole n on in
      let goes : OutPipeGoesOn takes (taker after (ends n).addr (ends n).ep) near (concat (acc n) ++ bytes_of_both n z)
      (parts_now descs parts now) (joined later frame_later) n (ends n) =
      both_keep_out_pipes begins transacts takes taker near n (ends n) (concat (acc n)) base member met d descs parts hand frame c wire
      after now later frame_later out_bus out_keeps describing runs effect asked out_misses z part.0 part.1
      (record { only = only n on; pipe = k.out_pipes.pipes n on }) in
      subst (λ (xs : List ℕ). IsOutPipe (taker after (ends n).addr (ends n).ep) xs parts_then hand_then n (ends n))
      (sym (adds n)) goes.pipe

  still_aside : (n : ℕ) → IsAside takes parts n (ends n) → IsAside takes (parts_now descs parts now) n (ends n)
  still_aside n was = (
    named_still n (ends n) z was.0,
    ⊎_elim (λ (none : takes (ends n).addr (ends n).ep ≡ false). inl none)
        (λ (none : SendsNone (parts n)). inr (none_still (parts n) (parts_now descs parts now n) (alters n) none)) was.1,
  )

  pub goes_on : PipesGoOn sends takes packets sender taker near ins outs ends acc z
  goes_on = record {
    moved = moves;
    adds = adds;
    pipes = record {
      in_ends = k.in_ends;
      in_pipes = in_pipes;
      out_ends = k.out_ends;
      out_pipes = record { pipes = out_pipe; others = λ n met_one off. still_aside n (k.out_pipes.others n met_one off) };
    };
  }

pub each_event_keeps_pipes : {W : Type 0} (begins : W → ℕ → Bool → W → Type 0) (transacts : W → Ask → List ℕ → Reply → W → Type 0)
    (sender : W → ℕ → ℕ → Option Sender) (taker : W → ℕ → ℕ → Option Taker) → EventKeepsPipes begins transacts sender taker
each_event_keeps_pipes begins transacts sender taker sends takes packets near ins outs ends acc base member met d descs parts hand frame c
    wire
    after now later frame_later bus keeps out_bus out_keeps describing runs effect asked misses out_misses whole z k =
    goes_on begins transacts sender taker sends takes packets near ins outs ends acc base member met d descs parts hand frame c wire after
    now later frame_later bus keeps out_bus out_keeps describing runs effect asked misses out_misses whole z k
