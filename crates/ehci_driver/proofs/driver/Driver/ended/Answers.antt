use Rattle.std.proofs.Common.{position, slice_get, option_and_then, ap, ◌∙◌}
use Rattle.drv_table.specs.declared.content.Endpoint.{Endpoint}
use Rattle.drv_table.specs.DriverContent.{DriverContent, is_same_name}
use Rattle.ehci_driver.proofs.driver.Driver.ended.Goals as goal

pub returns-in-Some : goal.returns-in-Some
returns-in-Some c =
    let d = c.args.self.now in
    let same = ap (λ (k : DriverContent). k.endpoints) c.self.view_is in
    c.ended_at.ensures
    ∙ ap (λ o. option_and_then (λ (x : Endpoint). x.ended) (option_and_then (λ i. slice_get d.endpoints i) o))
    (c.in-Some.ensures.place ∙ ap (position (λ (x : Endpoint). is_same_name x.desc.name c.args.name.now)) same)
