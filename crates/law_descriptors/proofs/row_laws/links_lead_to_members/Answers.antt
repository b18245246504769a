use Rattle.law_descriptors.proofs.Leading.{elements_lead_to_standing, members_lead_to_standing}
use Rattle.law_descriptors.proofs.Closing.{standing_are_closed, list_leads_to_standing}
use Rattle.law_descriptors.proofs.row_laws.links_lead_to_members.Goals as goal

pub returns : goal.returns
returns c = record {
  elements = elements_lead_to_standing;
  members = members_lead_to_standing;
  closed = standing_are_closed;
  list =
      list_leads_to_standing;
}
