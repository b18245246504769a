-- A packet of a control endpoint holds a SETUP (USB 2.0, 5.5.3).
use Rattle.std.proofs.Common.{◌≡◌, ℕ, ◌==◌, ◌≤◌, min, Bool, true, false, ◌||◌, List, ap, refl, sym, ◌∙◌, ⊎_elim, inl, inr, arith}
use Rattle.std.specs.Prelude.{◌⊎◌}
use Rattle.std.proofs.lemmas.Bool.{eqb-true}
use Rattle.law_common.proofs.Lists.{nth_all}
use Rattle.usb_base.specs.declared.commands.Cmd.TheVariants as commands
use Rattle.usb_base.specs.declared.endpoints.EpDesc.{EpDesc}
use Rattle.usb_base.specs.declared.packets.EpKind.{EpKind}
use Rattle.usb_base.specs.declared.packets.EpKind.TheVariants as kinds
use Rattle.usb_base.specs.declared.packets.Speed.{Speed}
use Rattle.usb_base.specs.declared.packets.Speed.TheVariants as speeds
use Rattle.script_types.specs.declared.scripts.Line.TheVariants as lines
use Rattle.script_types.specs.declared.scripts.Script.{Script}
use Rattle.script_fits.specs.Fits.{IsFitLine}
use Rattle.script_fits.proofs.Texts.{spelled_fits}
use Rattle.script_text.specs.Faults.{Spells}
use Rattle.script_world.specs.Ranges.{is_size}
use Rattle.qh_qtd.specs.declared.queue_head.Qh.{Qh}
use Rattle.toggle_error.specs.Columns.{limit_of}
use Rattle.hc_copy.specs.Planning.{host_in}
use Rattle.law_opened.specs.Opened.{IsOpened}

or_cases : (a b : Bool) → (a || b) ≡ true → (a ≡ true) ⊎ (b ≡ true)
or_cases true b is = inl refl
or_cases false b is = inr is

one_size : (n size : ℕ) → 8 ≤ size → (n == size) ≡ true → 8 ≤ n
one_size n size room is = let same = eqb-true n size is in omega (arith, room, same)

size_eight : (v : Speed) (n : ℕ) → is_size kinds.Control v n ≡ true → 8 ≤ n
size_eight speeds.High n is = one_size n 64 (omega arith) is
size_eight speeds.Low n is = one_size n 8 (omega arith) is
size_eight speeds.Full n is =
    ⊎_elim
    (λ (three : ((n == 8 || n == 16) || n == 32) ≡ true).
    ⊎_elim
    (λ (two : (n == 8 || n == 16) ≡ true).
    ⊎_elim (one_size n 8 (omega arith)) (one_size n 16 (omega arith)) (or_cases (n == 8) (n == 16) two))
    (one_size n 32 (omega arith)) (or_cases (n == 8 || n == 16) (n == 32) three))
    (one_size n 64 (omega arith)) (or_cases ((n == 8 || n == 16) || n == 32) (n == 64) is)

pub fits_whole : (q : Qh) → q.token.total ≡ 8 → 8 ≤ q.max → limit_of (host_in q) ≡ q.token.total
fits_whole q whole room =
    let fits : min q.max 8 ≡ 8 = omega (arith, room) in ap (min q.max) whole ∙ fits ∙ sym whole

pub control_room : (text : List ℕ) (s : Script) → Spells text s → (x : EpDesc) → IsOpened s x → x.kind ≡ kinds.Control → 8 ≤ x.max
control_room text s spelled x o is =
    let fit : IsFitLine (lines.Command (commands.OpenEp x)) =
    nth_all (λ l. IsFitLine l.1) s.lines o.place (o.number, lines.Command (commands.OpenEp x)) (spelled_fits text s spelled).lines o.here in
    size_eight x.speed x.max (ap (λ (kind : EpKind). is_size kind x.speed x.max) (sym is) ∙ fit.2.size)
