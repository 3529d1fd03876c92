mod DownLaws
mod EndsLaws
mod OrdersHold
pub mod RaisedLaws
mod SplicesLaws
mod StepsLaws
