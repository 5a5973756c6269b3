pub mod PairRefusing
