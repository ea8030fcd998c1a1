pub mod Orders
pub mod Rankings
pub mod Views
pub mod RankedOrderLemmas
pub mod RankLaws
pub mod Crossed
