-- What is stated of the translators of a hub that has one for each port (USB 2.0, 11.14).
--     IsLikeOne            the part of a port, and each answer for it, is that of a single translator after its own calls
--     PortsAreApart        .. after every list of calls
--     WorksByCalls         over any wire the work of a microframe is a call, with what was heard there
use Rattle.std.specs.Prelude.{◌≡◌, ℕ, true, List, Some}
use Rattle.usb_base.specs.declared.packets.Ask.{Ask}
use Rattle.usb_base.specs.declared.packets.Reply.{Reply}
use Rattle.multi_tt.specs.Translators.{Translator, Translators, translator_at}
use Rattle.multi_tt.specs.Single.{Heard, AllWork}
use Rattle.multi_tt.specs.Calls.{HubCall, only, played, answers, hub_played, answers_at, all_worked}

pub record IsLikeOne (port : ℕ) (calls : List HubCall) (ts : Translators) (t : Translator) : Type 0 where
  pub part : translator_at port (hub_played calls ts) ≡ Some (played (only port calls) t)
  pub answers : answers_at port calls ts ≡ answers (only port calls) t

abbrev pub PortsAreApart : Type 0
PortsAreApart = (port : ℕ) → (calls : List HubCall) → (ts : Translators) → ts.multi ≡ true
    → (t : Translator) → translator_at port ts ≡ Some t → IsLikeOne port calls ts t

abbrev pub WorksByCalls : {W : Type 0} → (W → Ask → List ℕ → Reply → W → Type 0) → Type 0
WorksByCalls {W} transacts = (frindex : ℕ) → (ts : List Translator) → (before : W) → (after : W) → (new : List Translator)
    → AllWork transacts frindex ts before after new → (heard : List Heard) × (new ≡ all_worked frindex heard ts)
