pub mod PairFinds
