-- One stage of a transfer, by its row.
use Rattle.std.proofs.Common.{◌≡◌, ℕ, Bool, true, List, length, refl, sym, subst, if◌then◌else◌}
use Rattle.std.specs.Prelude.{◌==◌}
use Rattle.std.proofs.lemmas.Bool.{eq-eqb}
use Rattle.usb_base.specs.declared.packets.Ask.{Ask}
use Rattle.usb_base.specs.declared.packets.Pid.TheVariants as Pids
use Rattle.usb_base.specs.declared.packets.Reply.TheVariants.{Silent, Hand}
use Rattle.dev_control.specs.declared.rows.StageRow.{StageRow}
use Rattle.dev_control.specs.declared.rows.StageRow.TheVariants.{Begins, Ignores}
use Rattle.dev_control.specs.declared.rows.StageToken.{StageToken}
use Rattle.dev_control.specs.declared.rows.StageToken.TheVariants as Tokens
use Rattle.dev_control.specs.Stages.{token_of, stage_of, row_by, row_reply, after_stage_row, unless_nak}
use Rattle.hub_class.specs.HubContent.{HubContent}
use Rattle.hub_class.specs.EndpointZero.{reply_under, suits, acts_on, acted_with, row_at, hub_reply, hub_answered, hub_answered_at}
use Rattle.law_hub.specs.Stages.{Hears, told}

-- what the hub answers and is left as, by the row
pub reply_by_row : (ask : Ask) (out : List ℕ) (h : HubContent) (row : StageRow) → suits ask h ≡ true → row_at ask out h ≡ row → hub_reply ask out h ≡ row_reply row (reply_under h) h.control
reply_by_row ask out h row e f =
    subst (λ (b : Bool). (if b then row_reply (row_at ask out h) (reply_under h) h.control else Silent) ≡ row_reply row (reply_under h) h.control) (sym e)
    (subst (λ (r : StageRow). row_reply r (reply_under h) h.control ≡ row_reply row (reply_under h) h.control) (sym f) refl)

pub after_by_row : (ask : Ask) (out : List ℕ) (h : HubContent) (row : StageRow) → suits ask h ≡ true → row_at ask out h ≡ row → hub_answered ask out h ≡ acted_with (acts_on row h.control.request) (record h { control = after_stage_row row h.control })
after_by_row ask out h row e f =
    subst (λ (b : Bool). (if b then hub_answered_at ask out h else h) ≡ acted_with (acts_on row h.control.request) (record h { control = after_stage_row row h.control })) (sym e)
    (subst (λ (r : StageRow). acted_with (acts_on r h.control.request) (record h { control = after_stage_row r h.control }) ≡ acted_with (acts_on row h.control.request) (record h { control = after_stage_row row h.control })) (sym f) refl)

-- the row of each token
pub row_by_token : (token : StageToken) (ask : Ask) (out : List ℕ) (h : HubContent) → token_of ask.pid ≡ token → row_at ask out h ≡ row_by token (stage_of (reply_under h) h.control) h.control ask.toggle out
row_by_token token ask out h e =
    subst (λ (t : StageToken). row_by t (stage_of (reply_under h) h.control) h.control ask.toggle out ≡ row_by token (stage_of (reply_under h) h.control) h.control ask.toggle out) (sym e) refl

setup_by : (b : Bool) (out : List ℕ) → b ≡ true → (if b then Begins out else Ignores) ≡ Begins out
setup_by b out e = subst (λ (x : Bool). (if x then Begins out else Ignores) ≡ Begins out) (sym e) refl

pub setup_row_at : (ask : Ask) (out : List ℕ) (h : HubContent) → Hears Tokens.Setup ask h → length out ≡ 8 → row_at ask out h ≡ Begins out
setup_row_at ask out h hears e =
    subst (λ (r : StageRow). r ≡ Begins out) (sym (row_by_token Tokens.Setup ask out h hears.token_is)) (setup_by (length out == 8) out (eq-eqb (length out) 8 e))

pub never_busy : (naks : ℕ) (row : StageRow) → naks ≡ 0 → unless_nak naks row ≡ row
never_busy naks row e = subst (λ (n : ℕ). unless_nak n row ≡ row) (sym e) refl

-- ---- the SETUP

pub setup_reply : (ask : Ask) (setup : List ℕ) (h : HubContent) → Hears Tokens.Setup ask h → length setup ≡ 8 → hub_reply ask setup h ≡ Hand Pids.Ack
setup_reply ask setup h hears e = reply_by_row ask setup h (Begins setup) hears.suited (setup_row_at ask setup h hears e)

pub setup_after : (ask : Ask) (setup : List ℕ) (h : HubContent) → Hears Tokens.Setup ask h → length setup ≡ 8 → hub_answered ask setup h ≡ told setup h
setup_after ask setup h hears e = after_by_row ask setup h (Begins setup) hears.suited (setup_row_at ask setup h hears e)
