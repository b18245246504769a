pub mod hub_plans
