mod SelectedLaws
mod DollarLaws
