-- What the host hears of an entry that has had all that its starts call for.
use Rattle.std.proofs.Common.{◌≡◌, ℕ, ◌+◌, ◌-◌, ◌*◌, ◌/◌, ◌<◌, ◌≤◌, min, true, false, List, length, refl, sym, ◌∙◌, subst, arith}
use Rattle.std.specs.Prelude.{nat_le, nat_lt, ◌&&◌}
use Rattle.std.proofs.lemmas.Bool.{lt-ltb, le-leb}
use Rattle.std.proofs.Math.Nat.{mul-div_cancel_left}
use Rattle.usb_base.specs.declared.packets.Ask.{Ask}
use Rattle.usb_base.specs.declared.packets.EpKind.{EpKind}
use Rattle.usb_base.specs.declared.packets.EpKind.TheVariants.{Iso, Interrupt}
use Rattle.usb_base.specs.declared.packets.Pid.{Pid}
use Rattle.usb_base.specs.declared.packets.Pid.TheVariants.{In}
use Rattle.usb_base.specs.declared.packets.Reply.TheVariants.{Bytes}
use Rattle.usb_base.specs.declared.packets.Speed.{Speed}
use Rattle.usb_base.specs.declared.packets.Speed.TheVariants.{Full, High}
use Rattle.usb_base.specs.Cost.{byte_times}
use Rattle.hub_keys.specs.Asks.{work_of}
use Rattle.tt_pipeline.specs.declared.entry.Entry.{Entry}
use Rattle.tt_pipeline.specs.declared.entry.Exchange.{Exchange}
use Rattle.tt_pipeline.specs.declared.entry.Exchange.TheVariants.{Ahead, Made}
use Rattle.tt_pipeline.specs.declared.rows.AnswerRow.TheVariants.{Last, Result}
use Rattle.tt_pipeline.specs.Answers.{bytes_row, made_row, row_at, answer_row}
use Rattle.tt_pipeline.specs.Work.{called_unstuffed, called_for, unstuffed_done, is_ahead, is_ripe, is_iso_out}
use Rattle.claims_world.specs.Plans.{Plan}
use Rattle.claims_world.specs.Watched.{Watched}
use Rattle.claims_world.specs.Answered.{IsHeardIn}
use Rattle.law_translator.proofs.Owing.{Coming, called_ended}

-- ---- an interrupt

some_work : (speed : Speed) (n : ℕ) → (speed ≡ High → ⊥) → 0 < byte_times speed Interrupt n
some_work High n classic = absurd (classic refl)
some_work _ n classic = omega arith

made_one : (x : Exchange) (e : Entry) (pid : Pid) → (is_ahead x && is_ripe (is_iso_out Interrupt pid) e) ≡ false → 0 < e.done
    → e.ask.kind ≡ Interrupt → nat_le (called_for e) e.done ≡ true → row_at x e ≡ Result
made_one (Ahead sent) e pid asked some kind all = let t : nat_lt 0 e.done ≡ true = lt-ltb 0 e.done some in absurd cc
made_one (Made reply) e pid asked some kind all = let all' = rw kind at all in rw (kind, all') refl

more_for : (c n d : ℕ) → 0 < c → d ≡ c + n → 0 < d
more_for c n d h i = omega arith

pub result_is_there : (most : ℕ) (p : Plan) (now : ℕ) (w : Watched) → Coming most p now w → w.entry.done ≡ called_for w.entry
    → w.entry.ask.kind ≡ Interrupt → w.entry.heard.whole ≡ true → answer_row w.entry ≡ Result
result_is_there most p now w o done kind whole =
    let c : called_unstuffed w.entry ≡ work_of w.entry.ask w.entry.heard.bytes = called_ended w.entry.ask w.entry.heard whole in
    let some_c : 0 < called_unstuffed w.entry = rw (c, kind) (some_work w.entry.ask.speed _ o.classic) in
    let some : 0 < w.entry.done = more_for (called_unstuffed w.entry) _ w.entry.done some_c done in
    made_one w.entry.exchange w.entry w.entry.ask.pid (rw kind at o.asked) some kind (le-leb _ _ (omega (arith, done)))

-- ---- an isochronous IN

work_in : (ask : Ask) (n : ℕ) → ask.kind ≡ Iso → ask.pid ≡ In → ask.speed ≡ Full → work_of ask n ≡ ask.limit + 9
work_in ask n k p s = rw (k, p, s) refl

all_unstuffed : (c f d : ℕ) → d ≡ f → 0 < f → d * c / f ≡ c
all_unstuffed c f d done some = rw done (mul-div_cancel_left c some)

bytes_there : (n : ℕ) (e : Entry) → e.ended ≡ false → nat_le (n + 9) (unstuffed_done e) ≡ true → bytes_row n e ≡ Last
bytes_there n e goes_on all = rw (goes_on, all) refl

made_in : (kind : EpKind) (way pid : Pid) (bytes : List ℕ) (e : Entry) → kind ≡ Iso → way ≡ In → bytes_row (length bytes) e ≡ Last
    → made_row kind way (Bytes pid bytes) e ≡ Last
made_in kind way pid bytes e k w row = rw (k, w) row

pub last_is_there : (w : Watched) (pid : Pid) (bytes : List ℕ) → w.entry.done ≡ called_for w.entry → IsHeardIn w.entry pid bytes
    → answer_row w.entry ≡ Last
last_is_there w pid bytes done h =
    let c : called_unstuffed w.entry ≡ work_of w.entry.ask w.entry.heard.bytes = called_ended w.entry.ask w.entry.heard h.whole in
    let m : called_unstuffed w.entry ≡ w.entry.ask.limit + 9 = c ∙ work_in w.entry.ask w.entry.heard.bytes h.kind h.way h.speed in
    let some : 0 < called_for w.entry = more_for (called_unstuffed w.entry) _ (called_for w.entry) (omega (arith, m)) refl in
    let u : unstuffed_done w.entry ≡ called_unstuffed w.entry = all_unstuffed (called_unstuffed w.entry) (called_for w.entry)
    w.entry.done done some in
    let n : nat_le (length bytes + 9) (unstuffed_done w.entry) ≡ true = le-leb _ _ (omega (arith, u, m, h.fits)) in
    subst (λ (x : Exchange). row_at x w.entry ≡ Last) (sym h.made) (made_in w.entry.ask.kind w.entry.ask.pid pid bytes w.entry h.kind
    h.way (bytes_there (length bytes) w.entry h.goes_on n))

-- ---- when all is laid

pub laid_by_end : (a s now late : ℕ) → s + (a + 187) / 188 + late ≤ now → a ≤ min a (188 * (now - late - s))
laid_by_end a s now late h = omega arith
