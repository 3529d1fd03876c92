pub mod BraceLaws
