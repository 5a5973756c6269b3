pub mod SessionsHold
