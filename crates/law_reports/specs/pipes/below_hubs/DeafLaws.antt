-- A hub hears no request where no line of the script opens its endpoint 0 (USB 2.0, 8.5.3 and 11.24).
--     IsUnheard a h            if h is the hub with the address a, it heard no request yet
--     NamesNone a d            no endpoint of a driver has this address and number 0
--     OpensNone a cmd          nor does the command open such a one
--     IsUnopenedHub s x        so it is of each line of the script, for the address of x's hub
--     UnopenedHubsAreSpared    then each hub of this address is spared at each moment: what is told of x begins its stream all along
use Rattle.std.specs.Prelude.{◌≡◌, ℕ, List, slice_get, Some, None}
use Rattle.std.specs.List.{AllByRecursion}
use Rattle.usb_base.specs.declared.commands.Cmd.{Cmd}
use Rattle.usb_base.specs.declared.commands.Cmd.TheVariants as commands
use Rattle.usb_base.specs.declared.endpoints.EpDesc.{EpDesc}
use Rattle.script_types.specs.declared.scripts.Script.{Script}
use Rattle.script_text.specs.Faults.{Spells}
use Rattle.dev_control.specs.Stages.{setup_of}
use Rattle.hub_class.specs.HubContent.{HubContent}
use Rattle.claims_world.specs.BelowStreams.{IsSparedAt}
use Rattle.drv_table.specs.declared.content.Endpoint.{Endpoint}
use Rattle.drv_table.specs.DriverContent.{DriverContent}
use Rattle.law_world.specs.steps.receiving_runs.Runs.{KindOfLine}

abbrev pub IsUnheard : ℕ → HubContent → Type 0
IsUnheard a h = h.address ≡ a → setup_of h.control.request ≡ None

abbrev pub NamesNone : ℕ → DriverContent → Type 0
NamesNone a d = (e : ℕ) (y : Endpoint) → slice_get d.endpoints e ≡ Some y → y.desc.name.addr ≡ a → y.desc.name.num ≡ 0 → ⊥

abbrev pub OpensNone : ℕ → Cmd → Type 0
OpensNone a (commands.OpenEp d) = d.name.addr ≡ a → d.name.num ≡ 0 → ⊥
OpensNone a _ = Unit {0}

abbrev pub IsUnopenedHub : Script → EpDesc → Type 0
IsUnopenedHub s x = (a : ℕ) → x.hub ≡ Some a → AllByRecursion (λ line. KindOfLine (OpensNone a) line.1) s.lines

abbrev pub UnopenedHubsAreSpared : Type 0
UnopenedHubsAreSpared = (text : List ℕ) (s : Script) (x : EpDesc) → Spells text s → IsUnopenedHub s x → (k : ℕ) → IsSparedAt s x k
