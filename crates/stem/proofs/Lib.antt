mod StemLaws
