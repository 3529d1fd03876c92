mod PlacesLaws
mod WindowsLaws
